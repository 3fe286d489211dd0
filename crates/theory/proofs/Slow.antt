-- The two neighbouring steps of a piece: the slower is no faster than its slope, the next is no slower, and a steeper piece has no slower one.
-- The tests that `slow_step` counts pass up to some step and fail from there on, so the count is the place of the first that fails.
use Rattle.std.proofs.Common.{◌≡◌, ℕ, zero, suc, ◌-◌, ◌*◌, ◌<◌, ◌≤◌, Bool, true, false, cond, leb, List, length, ap, subst, inl, inr, mul-le-mul_right, mul_right_comm, le_of_mul-le-mul_right, arith}
use Rattle.std.proofs.lemmas.Bool.{cond-true, cond-false, cases_lt, cases_Bool, both_ways, leb-true, leb-false, le-leb}
use Rattle.model.specs.Sums.{sum_to}
use Rattle.model.specs.Steps.{speed_at, top_speed, Lawful}
use Rattle.model.specs.Path.{run, rise, Piece}
use Rattle.model.specs.Plan.{slow_step}
use Rattle.model.specs.declared.step.Step.{Step}
use Rattle.model.proofs.Sums.{sum_to_mono}

-- how many of the tests below n pass
abbrev count : ℕ → (ℕ → Bool) → ℕ
count n b = sum_to n (λ i. cond (b i) 1 0)

one_true : (b : Bool) → b ≡ true → ◌≡◌ {A = ℕ} (cond b 1 0) 1
one_true b e = cond-true b 1 0 e

one_false : (b : Bool) → b ≡ false → ◌≡◌ {A = ℕ} (cond b 1 0) 0
one_false b e = cond-false b 1 0 e

-- tests of which none passes after one that fails: those below the count pass, those from it on fail
count_splits : (n : ℕ) (b : ℕ → Bool) → ((i : ℕ) → suc i < n → b (suc i) ≡ true → b i ≡ true)
    → (count n b ≤ n) × ((i : ℕ) → i < count n b → b i ≡ true) × ((i : ℕ) → count n b ≤ i → i < n → b i ≡ false)
unfolding sum_to
count_splits zero b down = (omega arith, (λ i l. absurd (omega arith)), (λ i l k. absurd (omega arith)))
count_splits (suc n) b down = more (count_splits n b (λ i l. down i (omega arith)))
  where
    more : (count n b ≤ n) × ((i : ℕ) → i < count n b → b i ≡ true) × ((i : ℕ) → count n b ≤ i → i < n → b i ≡ false)
        → (count (suc n) b ≤ suc n) × ((i : ℕ) → i < count (suc n) b → b i ≡ true) × ((i : ℕ) → count (suc n) b ≤ i → i < suc n → b i ≡ false)
    more (low, pass, fail) =
        elim (cases_Bool (b n)) [
          | inl e ↦
              let c = one_true (b n) e in
              let full : count n b ≡ n = elim (cases_lt (count n b) n) [
                | inl l ↦
                    let s : suc (n - 1) ≡ n = omega arith in
                    absurd (both_ways (b (n - 1)) (fail (n - 1) (omega arith) (omega arith)) (down (n - 1) (omega arith) (rw s e)))
                | inr l ↦ omega arith
              ] in
              (omega arith, (λ i l. elim (cases_lt i n) [ inl k ↦ pass i (omega arith) | inr k ↦ let s : i ≡ n = omega arith in rw s e ]), (λ i l k. absurd (omega arith)))
          | inr e ↦
              let c = one_false (b n) e in
              (omega arith, (λ i l. pass i (omega arith)), (λ i l k. elim (cases_lt i n) [ inl m ↦ fail i (omega arith) m | inr m ↦ let s : i ≡ n = omega arith in rw s e ]))
        ]

module _ (steps : List Step) (lawful : Lawful steps) (l : Piece) where
  -- whether the step after i is no faster than the slope
  abbrev pub reaches : ℕ → Bool
  reaches i = leb (speed_at steps (suc i) * run l.from l.to) (rise l.from l.to)

  pub splits : (slow_step steps l ≤ length steps - 2) × ((i : ℕ) → i < slow_step steps l → reaches i ≡ true) × ((i : ℕ) → slow_step steps l ≤ i → i < length steps - 2 → reaches i ≡ false)
  unfolding slow_step
  splits = count_splits (length steps - 2) reaches (λ i k e.
      let f = lawful.faster (suc i) (omega arith) in
      let a = leb-true _ _ e in
      let b = mul-le-mul_right (run l.from l.to) (let g : speed_at steps (suc i) ≤ speed_at steps (suc (suc i)) = omega arith in g) in
      le-leb _ _ (omega arith))

  pub slow_known : suc (slow_step steps l) < length steps
  slow_known = let a = splits.0 in let b = lawful.least in omega arith

  pub slow_under : speed_at steps (slow_step steps l) * run l.from l.to ≤ rise l.from l.to
  slow_under = at (slow_step steps l) splits.1
    where
      at : (h : ℕ) → ((i : ℕ) → i < h → reaches i ≡ true) → speed_at steps h * run l.from l.to ≤ rise l.from l.to
      at zero pass = let z = ap (λ (x : ℕ). x * run l.from l.to) lawful.idle in omega arith
      at (suc h) pass = leb-true _ _ (pass h (omega arith))

  pub fast_over : rise l.from l.to ≤ top_speed steps * run l.from l.to → rise l.from l.to ≤ speed_at steps (suc (slow_step steps l)) * run l.from l.to
  unfolding top_speed
  fast_over gentle =
      elim (cases_lt (slow_step steps l) (length steps - 2)) [
        | inl k ↦ let a = leb-false _ _ (splits.2 (slow_step steps l) (omega arith) k) in omega arith
        | inr k ↦
            let e : length steps - 1 ≡ suc (slow_step steps l) = let a = splits.0 in let b = lawful.least in omega arith in
            subst (λ (x : ℕ). rise l.from l.to ≤ speed_at steps x * run l.from l.to) e gentle
      ]

-- v·a ≤ b and b/a ≤ d/c give v·c ≤ d
slope_passes : (v a b c d : ℕ) → 0 < a → v * a ≤ b → b * c ≤ d * a → v * c ≤ d
slope_passes v a b c d a0 l k =
    le_of_mul-le-mul_right {m = v * c} {n = d} {k = a} (
    let e = mul_right_comm v c a in
    let m = mul-le-mul_right c l in
    omega arith) a0

-- a piece that is no flatter has no slower slow step
pub slow_grows : (steps : List Step) (l m : Piece) → 0 < run l.from l.to
    → rise l.from l.to * run m.from m.to ≤ rise m.from m.to * run l.from l.to → slow_step steps l ≤ slow_step steps m
unfolding slow_step
slow_grows steps l m a0 k =
    sum_to_mono (length steps - 2)
    (λ i. cond (leb (speed_at steps (suc i) * run l.from l.to) (rise l.from l.to)) 1 0)
    (λ i. cond (leb (speed_at steps (suc i) * run m.from m.to) (rise m.from m.to)) 1 0)
    (λ i b. elim (cases_Bool (leb (speed_at steps (suc i) * run l.from l.to) (rise l.from l.to))) [
      | inl e ↦
          let q = slope_passes (speed_at steps (suc i)) (run l.from l.to) (rise l.from l.to) (run m.from m.to) (rise m.from m.to) a0 (leb-true _ _ e) k in
          let c1 = one_true (leb (speed_at steps (suc i) * run l.from l.to) (rise l.from l.to)) e in
          let c2 = one_true (leb (speed_at steps (suc i) * run m.from m.to) (rise m.from m.to)) (le-leb _ _ q) in
          omega arith
      | inr e ↦
          let c1 = one_false (leb (speed_at steps (suc i) * run l.from l.to) (rise l.from l.to)) e in
          omega arith
    ])
