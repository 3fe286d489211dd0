-- The groups of a number: how many there are, and each written behind those before it.
use Rattle.std.proofs.Common.{◌≡◌, ℕ, zero, suc, ◌+◌, ◌-◌, ◌/◌, ◌%◌, ◌<◌, ◌≤◌, List, [], ◌∷◌, ◌++◌, length, get_or, take, drop, set, sym, refl, ap, ◌∙◌, inl, inr, mod-eq_of_lt, arith}
use Rattle.std.proofs.lemmas.List.{append_assoc, length-append, length-take-le, take_more_set, take_all, length-set, drop_more, set_at}
use Rattle.std.proofs.lemmas.Bool.Decides.{nat_tests}
use Rattle.std.proofs.lemmas.Bool.{cases_lt}
use Rattle.record.specs.Numbers.{groups, number_bytes}

-- a number below 128 is one group
pub groups_one : (k n : ℕ) → n < 128 → groups k n ≡ n ∷ []
unfolding groups
groups_one zero n l = ap (λ (x : ℕ). x ∷ []) (mod-eq_of_lt l)
groups_one (suc k) n l = grind (arith, nat_tests)

-- from 128 on the lowest group has its top bit set, and the others follow
pub groups_suc : (k n : ℕ) → 128 ≤ n → groups (suc k) n ≡ (128 + n % 128) ∷ groups k (n / 128)
unfolding groups
groups_suc k n l = grind (arith, nat_tests)

-- the same, counted up
pub groups_more : (k n : ℕ) → k < 4 → 128 ≤ n → groups (4 - k) n ≡ (128 + n % 128) ∷ groups (4 - (k + 1)) (n / 128)
groups_more k n b l =
    let e : 4 - k ≡ suc (4 - (k + 1)) = omega arith in
    ap (λ (f : ℕ). groups f n) e ∙ groups_suc (4 - (k + 1)) n l

-- the last group that there can be
groups_last : (n : ℕ) → groups 0 n ≡ (n % 128) ∷ []
unfolding groups
groups_last n = refl

-- how long the groups of a number are
pub long_last : (n : ℕ) → 1 ≡ length (groups 0 n)
long_last n = sym (ap length (groups_last n))

pub long_one : (k n : ℕ) → n < 128 → 1 ≡ length (groups k n)
long_one k n l = sym (ap length (groups_one k n l))

pub long_on : (k n m : ℕ) → 128 ≤ n → m ≡ length (groups k (n / 128)) → m + 1 ≡ length (groups (suc k) n)
long_on k n m l e = let h = ap length (groups_suc k n l) in omega arith

-- there is a group
pub groups_some : (k n : ℕ) → 0 < length (groups k n)
groups_some zero n = omega (arith, long_last n)
groups_some (suc k) n =
    elim (cases_lt n 128) [
      | inl h ↦ omega (arith, long_one (suc k) n h)
      | inr h ↦ omega (arith, long_on k n _ h refl)
    ]

-- no more than k + 1
pub groups_most : (k n : ℕ) → length (groups k n) ≤ k + 1
groups_most zero n = omega (arith, long_last n)
groups_most (suc k) n =
    elim (cases_lt n 128) [
      | inl h ↦ omega (arith, long_one (suc k) n h)
      | inr h ↦ omega (arith, long_on k n _ h refl, groups_most k (n / 128))
    ]

-- no number takes more than five bytes
pub number_most : (n m : ℕ) → n ≡ length (number_bytes m) → n ≤ 5
number_most n m e = omega (arith, groups_most 4 m)

-- where only one group is left, it is the number's lowest
one_left : (k n : ℕ) → length (groups k n) ≤ 1 → groups k n ≡ (n % 128) ∷ []
one_left zero n l = groups_last n
one_left (suc k) n l =
    elim (cases_lt n 128) [
      | inl h ↦ groups_one (suc k) n h ∙ ap (λ (x : ℕ). x ∷ []) (sym (mod-eq_of_lt h))
      | inr h ↦ absurd (omega (arith, long_on k n _ h refl, groups_some k (n / 128)))
    ]

-- where more are left, it has its top bit set
more_left : (k n : ℕ) → 1 < length (groups (4 - k) n) → (k < 4) × (128 ≤ n)
more_left k n l =
    elim (cases_lt n 128) [
      | inl h ↦ absurd (omega (arith, long_one (4 - k) n h))
      | inr h ↦ (omega (arith, groups_most (4 - k) n), h)
    ]

-- k groups are written, and those of the rest are to come
pub record Grouped (n k rest : ℕ) (part : List ℕ) : Type 0 where
  pub bytes : take k part ++ groups (4 - k) rest ≡ number_bytes n
  pub long : length part + 1 ≡ length (number_bytes n)

-- no group is written
pub grouped_none : (n last : ℕ) (out : List ℕ) → last + 1 ≡ length (number_bytes n) → last ≤ length out → Grouped n 0 n (take last out)
grouped_none n last out e l = record { bytes = refl; long = omega (arith, length-take-le last out l) }

-- how many are to come
to_come : {n k rest : ℕ} {part : List ℕ} → Grouped n k rest part → k ≤ length part → k + length (groups (4 - k) rest) ≡ length part + 1
to_come {n} {k} {rest} {part} w l = omega (arith, w.long, ap length w.bytes, length-append (take k part) (groups (4 - k) rest), length-take-le k part l)

-- one more group is written
pub grouped_on : {n k rest : ℕ} {part : List ℕ} → Grouped n k rest part → k < length part → Grouped n (k + 1) (rest / 128) (set part k (128 + rest % 128))
grouped_on {n} {k} {rest} {part} w l =
    let m = more_left k rest (omega (arith, to_come w (omega arith))) in
    record {
      bytes =
          ap (λ (ys : List ℕ). ys ++ groups (4 - (k + 1)) (rest / 128)) (take_more_set part k (128 + rest % 128) l)
          ∙ append_assoc (take k part) ((128 + rest % 128) ∷ []) (groups (4 - (k + 1)) (rest / 128))
          ∙ ap (λ (ys : List ℕ). take k part ++ ys) (sym (groups_more k rest m.0 m.1))
          ∙ w.bytes;
      long = omega (arith, w.long, length-set part k (128 + rest % 128));
    }

-- all but the last are written, and then the last
pub grouped_all : {n k rest : ℕ} {part : List ℕ} → Grouped n k rest part → (last : ℕ) (out : List ℕ) → last ≡ length part → k ≡ last → last < length out
    → set (part ++ drop last out) last (rest % 128) ≡ number_bytes n ++ drop (length (number_bytes n)) out
grouped_all {n} {k} {rest} {part} w last out e i l =
    let m : length (groups (4 - k) rest) ≤ 1 = omega (arith, to_come w (omega arith)) in
    let j : last + 1 ≡ length (number_bytes n) = omega (arith, w.long) in
    ap (λ (xs : List ℕ). set (part ++ xs) last (rest % 128)) (drop_more out last 0 l)
    ∙ set_at part (get_or out last 0) (drop (last + 1) out) (rest % 128) last (sym e)
    ∙ sym (append_assoc part ((rest % 128) ∷ []) (drop (last + 1) out))
    ∙ ap (λ (xs : List ℕ). (part ++ xs) ++ drop (last + 1) out) (sym (one_left (4 - k) rest m))
    ∙ ap (λ (xs : List ℕ). (xs ++ groups (4 - k) rest) ++ drop (last + 1) out) (sym (take_all k part (omega arith)))
    ∙ ap (λ (xs : List ℕ). xs ++ drop (last + 1) out) w.bytes
    ∙ ap (λ (x : ℕ). number_bytes n ++ drop x out) j
