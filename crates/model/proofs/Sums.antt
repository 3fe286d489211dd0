-- Laws of the sums and tests over the numbers below a bound.
use Rattle.std.proofs.Common.{◌≡◌, ℕ, zero, suc, ◌+◌, ◌-◌, ◌*◌, ◌<◌, ◌≤◌, Bool, true, false, sym, refl, ap, inl, inr, add-zero, add-suc, mul-zero, mul-add, arith}
use Rattle.std.proofs.lemmas.Bool.{and_parts, and_from, or_cases, or_left, or_right, cases_lt, true≢false, cases_Bool, both_ways}
use Rattle.model.specs.Sums.{sum_to, all_below, any_below}

pub sum_to_zero : (f : ℕ → ℕ) → sum_to 0 f ≡ 0
unfolding sum_to
sum_to_zero f = refl

pub sum_to_suc : (n : ℕ) (f : ℕ → ℕ) → sum_to (suc n) f ≡ sum_to n f + f n
unfolding sum_to
sum_to_suc n f = refl

-- equal terms give equal sums, and smaller ones a smaller sum
pub sum_to_cong : (n : ℕ) (f g : ℕ → ℕ) → ((i : ℕ) → i < n → f i ≡ g i) → sum_to n f ≡ sum_to n g
unfolding sum_to
sum_to_cong zero f g h = refl
sum_to_cong (suc n) f g h =
    let a : sum_to n f ≡ sum_to n g = sum_to_cong n f g (λ i l. h i (omega arith)) in
    let b : f n ≡ g n = h n (omega arith) in
    omega arith

pub sum_to_mono : (n : ℕ) (f g : ℕ → ℕ) → ((i : ℕ) → i < n → f i ≤ g i) → sum_to n f ≤ sum_to n g
unfolding sum_to
sum_to_mono zero f g h = omega arith
sum_to_mono (suc n) f g h =
    let a : sum_to n f ≤ sum_to n g = sum_to_mono n f g (λ i l. h i (omega arith)) in
    let b : f n ≤ g n = h n (omega arith) in
    omega arith

-- a sum of sums
pub sum_to_add : (n : ℕ) (f g : ℕ → ℕ) → sum_to n (λ i. f i + g i) ≡ sum_to n f + sum_to n g
unfolding sum_to
sum_to_add zero f g = refl
sum_to_add (suc n) f g = let a = sum_to_add n f g in omega arith

-- a factor taken out
pub sum_to_mul : (n c : ℕ) (f : ℕ → ℕ) → sum_to n (λ i. c * f i) ≡ c * sum_to n f
unfolding sum_to
sum_to_mul zero c f = sym (mul-zero c)
sum_to_mul (suc n) c f = let a = sum_to_mul n c f in let b = mul-add c (sum_to n f) (f n) in omega arith

-- a sum cut in two
pub sum_to_split : (m n : ℕ) (f : ℕ → ℕ) → sum_to (m + n) f ≡ sum_to m f + sum_to n (λ i. f (m + i))
unfolding sum_to
sum_to_split m zero f = rw (add-zero m) (sym (add-zero (sum_to m f)))
sum_to_split m (suc n) f = rw (add-suc m n) (let a = sum_to_split m n f in omega arith)

-- constant terms
pub sum_to_const : (n c : ℕ) → sum_to n (λ i. c) ≡ c * n
unfolding sum_to
sum_to_const zero c = sym (mul-zero c)
sum_to_const (suc n) c = let a = sum_to_const n c in let b = native.Mathlib.Nat.mul-suc c n in omega arith

-- nothing but zeros
pub sum_to_none : (n : ℕ) (f : ℕ → ℕ) → ((i : ℕ) → i < n → f i ≡ 0) → sum_to n f ≡ 0
unfolding sum_to
sum_to_none zero f h = refl
sum_to_none (suc n) f h =
    let a : sum_to n f ≡ 0 = sum_to_none n f (λ i l. h i (omega arith)) in
    let b : f n ≡ 0 = h n (omega arith) in
    omega arith

-- rows first or columns first
pub sum_to_swap : (m n : ℕ) (f : ℕ → ℕ → ℕ) → sum_to m (λ i. sum_to n (λ j. f i j)) ≡ sum_to n (λ j. sum_to m (λ i. f i j))
unfolding sum_to
sum_to_swap zero n f = sym (sum_to_none n (λ j. 0) (λ i l. refl))
sum_to_swap (suc m) n f =
    let a = sum_to_swap m n f in
    let b = sum_to_add n (λ j. sum_to m (λ i. f i j)) (λ j. f m j) in
    omega arith

-- a longer sum is no smaller
pub sum_to_longer : (m n : ℕ) (f : ℕ → ℕ) → m ≤ n → sum_to m f ≤ sum_to n f
sum_to_longer m n f h =
    let e : m + (n - m) ≡ n = omega arith in
    let s = sum_to_split m (n - m) f in
    let k : sum_to (m + (n - m)) f ≡ sum_to n f = ap (λ (x : ℕ). sum_to x f) e in
    omega arith

-- what all-below and any_below say
pub all_at : (n : ℕ) (f : ℕ → Bool) → all_below n f ≡ true → (i : ℕ) → i < n → f i ≡ true
unfolding all_below
all_at zero f e i l = absurd (omega arith)
all_at (suc n) f e i l =
    elim (cases_lt i n) [
      | inl k ↦ all_at n f (and_parts (all_below n f) (f n) e).0 i k
      | inr k ↦ let s : i ≡ n = omega arith in rw s (and_parts (all_below n f) (f n) e).1
    ]

pub all_from : (n : ℕ) (f : ℕ → Bool) → ((i : ℕ) → i < n → f i ≡ true) → all_below n f ≡ true
unfolding all_below
all_from zero f h = refl
all_from (suc n) f h = and_from (all_below n f) (f n) (all_from n f (λ i l. h i (omega arith))) (h n (omega arith))

pub any_at : (n : ℕ) (f : ℕ → Bool) → any_below n f ≡ true → (i : ℕ) × (i < n) × (f i ≡ true)
unfolding any_below
any_at zero f e = absurd (true≢false (sym e))
any_at (suc n) f e =
    elim (or_cases (any_below n f) (f n) e) [
      | inl k ↦ let r = any_at n f k in (r.0, omega arith, r.2)
      | inr k ↦ (n, omega arith, k)
    ]

pub any_from : (n : ℕ) (f : ℕ → Bool) (i : ℕ) → i < n → f i ≡ true → any_below n f ≡ true
unfolding any_below
any_from zero f i l e = absurd (omega arith)
any_from (suc n) f i l e =
    elim (cases_lt i n) [
      | inl k ↦ or_left (any_below n f) (f n) (any_from n f i k e)
      | inr k ↦ let s : i ≡ n = omega arith in or_right (any_below n f) (f n) (rw (← s) e)
    ]

pub any_none : (n : ℕ) (f : ℕ → Bool) → any_below n f ≡ false → (i : ℕ) → i < n → f i ≡ false
any_none n f e i l = elim (cases_Bool (f i)) [ inl k ↦ absurd (both_ways (any_below n f) e (any_from n f i l k)) | inr k ↦ k ]
