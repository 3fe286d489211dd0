-- Laws of the first number that passes a test, as a loop finds it: the search has come to n as long as none below n passes.
use Rattle.std.proofs.Common.{◌≡◌, ℕ, zero, suc, ◌+◌, ◌<◌, ◌≤◌, Bool, true, false, cond, ltb, sym, refl, ◌∙◌, inl, inr, add-one, arith}
use Rattle.std.proofs.lemmas.Bool.{cases_lt, cases_Bool, cond-true, cond-false, lt-ltb, le-ltb}
use Rattle.model.specs.Sums.{first_below}

-- at the start
pub first_start : (f : ℕ → Bool) → first_below 0 f ≡ 0
unfolding first_below
first_start f = refl

-- one number more that does not pass
pub first_more : (n : ℕ) (f : ℕ → Bool) → first_below n f ≡ n → f n ≡ false → first_below (n + 1) f ≡ n + 1
unfolding first_below
first_more n f e h =
    rw (add-one n)
    (cond-false (ltb (first_below n f) n) _ _ (le-ltb _ _ (omega arith)) ∙ cond-false (f n) n (suc n) h)

-- the search stops at the first number that passes
pub first_here : (m n : ℕ) (f : ℕ → Bool) → first_below n f ≡ n → f n ≡ true → n < m → first_below m f ≡ n
unfolding first_below
first_here zero n f e h l = absurd (omega arith)
first_here (suc m) n f e h l =
    elim (cases_lt n m) [
      | inl k ↦ let r : first_below m f ≡ n = first_here m n f e h k in
          cond-true (ltb (first_below m f) m) _ _ (lt-ltb _ _ (omega arith)) ∙ r
      | inr k ↦ let s : n ≡ m = omega arith in
          let z : first_below m f ≡ m = rw (← s) e in
          cond-false (ltb (first_below m f) m) _ _ (le-ltb _ _ (omega arith)) ∙ (cond-true (f m) m (suc m) (rw (← s) h) ∙ sym s)
    ]

-- it never passes the bound
pub first_le : (n : ℕ) (f : ℕ → Bool) → first_below n f ≤ n
unfolding first_below
first_le zero f = omega arith
first_le (suc n) f =
    elim (cases_lt (first_below n f) n) [
      | inl k ↦ let e = cond-true (ltb (first_below n f) n) (first_below n f) (cond (f n) n (suc n)) (lt-ltb _ _ k) in omega arith
      | inr k ↦ let e = cond-false (ltb (first_below n f) n) (first_below n f) (cond (f n) n (suc n)) (le-ltb _ _ k) in
          elim (cases_Bool (f n)) [
            | inl t ↦ let d = cond-true (f n) n (suc n) t in omega arith
            | inr t ↦ let d = cond-false (f n) n (suc n) t in omega arith
          ]
    ]

-- where the search comes to the bound, none below it passes
pub first_none : (n : ℕ) (f : ℕ → Bool) → first_below n f ≡ n → (i : ℕ) → i < n → f i ≡ false
unfolding first_below
first_none zero f e i l = absurd (omega arith)
first_none (suc n) f e i l =
    elim (cases_lt (first_below n f) n) [
      | inl k ↦ let d = cond-true (ltb (first_below n f) n) (first_below n f) (cond (f n) n (suc n)) (lt-ltb _ _ k) in absurd (omega arith)
      | inr k ↦ let b = first_le n f in
          let s : first_below n f ≡ n = omega arith in
          let d = cond-false (ltb (first_below n f) n) (first_below n f) (cond (f n) n (suc n)) (le-ltb _ _ k) in
          elim (cases_Bool (f n)) [
            | inl t ↦ let c = cond-true (f n) n (suc n) t in absurd (omega arith)
            | inr t ↦ elim (cases_lt i n) [ inl j ↦ first_none n f s i j | inr j ↦ let u : i ≡ n = omega arith in rw u t ]
          ]
    ]

-- where none passes, the search comes to the bound
pub first_all : (n : ℕ) (f : ℕ → Bool) → ((i : ℕ) → i < n → f i ≡ false) → first_below n f ≡ n
first_all zero f h = first_start f
first_all (suc n) f h =
    let a : first_below n f ≡ n = first_all n f (λ i l. h i (omega arith)) in
    rw (← (add-one n)) (first_more n f a (h n (omega arith)))

-- where the search stops before the bound, the test passes there, and at none before
pub first_found : (n : ℕ) (f : ℕ → Bool) → first_below n f < n → f (first_below n f) ≡ true
unfolding first_below
first_found zero f l = absurd (omega arith)
first_found (suc n) f l =
    elim (cases_lt (first_below n f) n) [
      | inl k ↦ rw (cond-true (ltb (first_below n f) n) (first_below n f) (cond (f n) n (suc n)) (lt-ltb _ _ k)) (first_found n f k)
      | inr k ↦ rw (cond-false (ltb (first_below n f) n) (first_below n f) (cond (f n) n (suc n)) (le-ltb _ _ k))
          (elim (cases_Bool (f n)) [
            | inl t ↦ rw (cond-true (f n) n (suc n) t) t
            | inr t ↦ let d = cond-false (ltb (first_below n f) n) (first_below n f) (cond (f n) n (suc n)) (le-ltb _ _ k) in
                let c = cond-false (f n) n (suc n) t in absurd (omega arith)
          ])
    ]
