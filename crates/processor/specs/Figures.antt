-- The steps of a formula, and that they keep the five rules for all figures that are taken.
use Rattle.std.specs.Prelude.{◌≡◌, ℕ, zero, suc, ◌+◌, ◌*◌, ◌%◌, ◌<◌, ◌≤◌, [], ◌∷◌, length, slice_index_or, refl}
use Rattle.std.proofs.Common.{inl, inr, sym, subst, ap, ◌∙◌, mul-zero, mul-suc, mul-le-mul, mul-le-mul_left, add-mul, arith}
use Rattle.std.proofs.lemmas.List.{length_push, get_or_push, get_or_append_left, get_or_past}
use Rattle.std.proofs.lemmas.Bool.{cases_lt}
use Rattle.model.specs.Steps.{unit, no_step, speed_at, power_at, gap, climb, Lawful}
use Rattle.model.specs.declared.step.Step.{Step}
use Rattle.processor.specs.Formulas.{formula_step, formula_steps}

pub figures_length : (n q a b c : ℕ) → length (formula_steps n q a b c) ≡ n
unfolding formula_steps
figures_length zero q a b c = refl
figures_length (suc n) q a b c =
    let e = length_push (formula_steps n q a b c) (formula_step q a b c n) in
    let d = figures_length n q a b c in omega arith

-- step i of a formula that has it
pub figures_at : (n q a b c i : ℕ) → i < n → slice_index_or (formula_steps n q a b c) i no_step ≡ formula_step q a b c i
unfolding formula_steps
figures_at zero q a b c i l = absurd (omega arith)
figures_at (suc n) q a b c i l =
    let e = figures_length n q a b c in
    elim (cases_lt i n) [
      | inl k ↦ get_or_append_left (formula_steps n q a b c) (formula_step q a b c n ∷ []) no_step i (omega arith) ∙ figures_at n q a b c i k
      | inr k ↦ let s : length (formula_steps n q a b c) ≡ i = omega arith in
          let t : n ≡ i = omega arith in
          get_or_push (formula_steps n q a b c) (formula_step q a b c n) no_step i s ∙ ap (λ (j : ℕ). formula_step q a b c j) t
    ]

pub figures_speed : (n q a b c i : ℕ) → i < n → speed_at (formula_steps n q a b c) i ≡ q * i
unfolding speed_at
figures_speed n q a b c i l = ap (λ (s : Step). s.speed) (figures_at n q a b c i l)

pub figures_power : (n q a b c i : ℕ) → i < n → power_at (formula_steps n q a b c) i ≡ a + b * i + c * i * i * i
unfolding power_at
figures_power n q a b c i l = ap (λ (s : Step). s.power) (figures_at n q a b c i l)

-- a step that the formula lacks
pub figures_past : (n q a b c i : ℕ) → n ≤ i → (speed_at (formula_steps n q a b c) i ≡ 0) × (power_at (formula_steps n q a b c) i ≡ 0)
unfolding speed_at power_at
figures_past n q a b c i l =
    let e = figures_length n q a b c in
    let p = get_or_past (formula_steps n q a b c) i no_step (omega arith) in
    (ap (λ (s : Step). s.speed) p, ap (λ (s : Step). s.power) p)

-- the next cube, term by term
next_cube : (c i : ℕ) → c * suc i * suc i * suc i ≡ c * i * i * i + (3 * (c * i * i) + (3 * (c * i) + c))
next_cube c i = simp (mul-suc, add-mul) (omega arith)

figures_gap : (n q a b c i : ℕ) → suc i < n → gap (formula_steps n q a b c) i ≡ q
unfolding gap
figures_gap n q a b c i l =
    let s = figures_speed n q a b c i (omega arith) in
    let t = figures_speed n q a b c (suc i) l in
    let m = mul-suc q i in
    omega arith

figures_climb : (n q a b c i : ℕ) → suc i < n → climb (formula_steps n q a b c) i ≡ b + (3 * (c * i * i) + (3 * (c * i) + c))
unfolding climb
figures_climb n q a b c i l =
    let s = figures_power n q a b c i (omega arith) in
    let t = figures_power n q a b c (suc i) l in
    let m = mul-suc b i in
    let k = next_cube c i in
    omega arith

-- the rise in power grows
steeper : (b c i : ℕ) → b + (3 * (c * i * i) + (3 * (c * i) + c)) ≤ b + (3 * (c * suc i * suc i) + (3 * (c * suc i) + c))
steeper b c i =
    let m : c * i ≤ c * suc i = mul-le-mul_left c (omega arith) in
    let k : c * i * i ≤ c * suc i * suc i = mul-le-mul m (omega arith) in
    omega arith

-- the dearest step
pub dearest : (a b c i : ℕ) → a ≤ 100000 → b ≤ 10000 → c ≤ 200 → i ≤ 15 → a + b * i + c * i * i * i ≤ 1000000
dearest a b c i ha hb hc hi =
    let m : b * i ≤ 10000 * 15 = mul-le-mul hb hi in
    let k : c * i * i * i ≤ 200 * 15 * 15 * 15 = mul-le-mul (mul-le-mul (mul-le-mul hc hi) hi) hi in
    omega arith

-- every formula keeps the five rules
pub figures_lawful :
    (n q a b c : ℕ) → 2 ≤ n → n ≤ 16 → 1 ≤ q → q ≤ 252 → unit % q ≡ 0 → a ≤ 100000 → b ≤ 10000 → c ≤ 200
    → Lawful (formula_steps n q a b c)
figures_lawful n q a b c lo hi q1 q2 qd ha hb hc =
    let len = figures_length n q a b c in
    record {
      least = omega arith;
      most = omega arith;
      idle = let s = figures_speed n q a b c 0 (omega arith) in let m = mul-zero q in omega arith;
      faster = λ i l.
          let s = figures_speed n q a b c i (omega arith) in
          let t = figures_speed n q a b c (suc i) (omega arith) in
          let m = mul-suc q i in omega arith;
      fast = λ i l.
          let s = figures_speed n q a b c i (omega arith) in
          let k : i ≤ 15 = omega arith in
          let m : q * i ≤ 252 * 15 = mul-le-mul q2 k in omega arith;
      dearer = λ i l.
          let s = figures_power n q a b c i (omega arith) in
          let t = figures_power n q a b c (suc i) (omega arith) in
          let m = mul-suc b i in
          let k = next_cube c i in omega arith;
      dear = λ i l.
          let s = figures_power n q a b c i (omega arith) in
          let d = dearest a b c i ha hb hc (omega arith) in omega arith;
      even = λ i l. let g = figures_gap n q a b c i (omega arith) in subst (λ (x : ℕ). unit % x ≡ 0) (sym g) qd;
      bends = λ i l.
          let g = figures_gap n q a b c i (omega arith) in
          let h = figures_gap n q a b c (suc i) (omega arith) in
          let r = figures_climb n q a b c i (omega arith) in
          let t = figures_climb n q a b c (suc i) (omega arith) in
          let k = steeper b c i in
          let w : climb (formula_steps n q a b c) i ≤ climb (formula_steps n q a b c) (suc i) = omega arith in
          mul-le-mul w (omega arith);
    }
