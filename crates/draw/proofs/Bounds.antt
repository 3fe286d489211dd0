-- Bounds that keep the arithmetic of drawing within 64 bits.
use Rattle.std.proofs.Common.{◌≡◌, ℕ, ◌*◌, ◌≤◌, List, [], ◌∷◌, length, ap, inl, inr, mul-le-mul_right, arith}
use Rattle.std.proofs.lemmas.List.{get_or_past}
use Rattle.std.proofs.lemmas.Bool.{cases_lt}
use Rattle.model.specs.Steps.{no_step, speed_at, power_at, Lawful}
use Rattle.model.specs.Sums.{sum_of}
use Rattle.model.specs.Plan.{ticks_of, energy}
use Rattle.model.specs.declared.segment.Segment.{Segment}
use Rattle.model.specs.declared.step.Step.{Step}

-- no power is above 1,000,000
pub power_safe : (steps : List Step) → Lawful steps → (i : ℕ) → power_at steps i ≤ 1000000
unfolding power_at
power_safe steps lawful i =
    elim (cases_lt i (length steps)) [
      | inl l ↦ lawful.dear i l
      | inr l ↦ let e = ap (λ (x : Step). x.power) (get_or_past steps i no_step l) in omega arith
    ]

-- nor does a run cost more than that
pub cost_safe : (steps : List Step) → Lawful steps → (s : Segment) (w : ℕ) → w ≡ power_at steps s.step → w * s.ticks ≤ 1000000 * s.ticks
cost_safe steps lawful s w e = let p = power_safe steps lawful s.step in mul-le-mul_right s.ticks (omega arith)

-- no speed is above 4,000
pub speed_safe : (steps : List Step) → Lawful steps → (i : ℕ) → speed_at steps i ≤ 4000
unfolding speed_at
speed_safe steps lawful i =
    elim (cases_lt i (length steps)) [
      | inl l ↦ lawful.fast i l
      | inr l ↦ let e = ap (λ (x : Step). x.speed) (get_or_past steps i no_step l) in omega arith
    ]

-- no tick costs more than the dearest power
pub energy_safe : (steps : List Step) → Lawful steps → (ss : List Segment) → energy steps ss ≤ 1000000 * ticks_of ss
unfolding energy ticks_of sum_of
energy_safe steps lawful [] = omega arith
energy_safe steps lawful (s ∷ ss) =
    let a = energy_safe steps lawful ss in
    let b = mul-le-mul_right s.ticks (power_safe steps lawful s.step) in
    omega arith
