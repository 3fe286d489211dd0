-- A rule looks no further than the step that it is tried on.
use Rattle.std.proofs.Common.{◌≡◌, ℕ, zero, suc, ◌+◌, ◌-◌, ◌<◌, Bool, List, length, take, refl, ap, ◌∙◌, arith}
use Rattle.std.proofs.lemmas.List.{get_or-take, length-take-le}
use Rattle.model.specs.Sums.{first_below}
use Rattle.model.specs.Steps.{no_step, speed_at, power_at, gap, climb}
use Rattle.model.specs.declared.step.Step.{Step}
use Rattle.processor.specs.Rules.{odd_at, odd_last}
use Rattle.processor.specs.declared.rule.Rule.{Rule}
use Rattle.processor.specs.declared.rule.Rule.TheVariants.{Speeds, Powers, Gaps, Bends}

in_front : (r : Rule) (s : List Step) (n i : ℕ) → i < n → odd_at r (take n s) i ≡ odd_at r s i
unfolding odd_at speed_at power_at gap climb
in_front Speeds s n i l =
    let a = get_or-take n s i no_step l in
    let b = get_or-take n s (i - 1) no_step (omega arith) in
    cc
in_front Powers s n i l =
    let a = get_or-take n s i no_step l in
    let b = get_or-take n s (i - 1) no_step (omega arith) in
    cc
in_front Gaps s n zero l = refl
in_front Gaps s n (suc i) l =
    let a = get_or-take n s (suc (suc i - 1)) no_step (omega arith) in
    let b = get_or-take n s (suc i - 1) no_step (omega arith) in
    cc
in_front Bends s n zero l = refl
in_front Bends s n (suc zero) l = refl
in_front Bends s n (suc (suc i)) l =
    let a = get_or-take n s (suc (suc (suc i) - 1)) no_step (omega arith) in
    let b = get_or-take n s (suc (suc i) - 1) no_step (omega arith) in
    let c = get_or-take n s (suc (suc (suc i) - 2)) no_step (omega arith) in
    let d = get_or-take n s (suc (suc i) - 2) no_step (omega arith) in
    cc

-- the last of the first steps is tried as it is among all
odd_front : (r : Rule) (s : List Step) (i : ℕ) → i < length s → odd_last r (take (i + 1) s) ≡ odd_at r s i
odd_front r s i l =
    let n = length-take-le (i + 1) s (omega arith) in
    let e : length (take (i + 1) s) - 1 ≡ i = omega arith in
    ap (odd_at r (take (i + 1) s)) e ∙ in_front r s (i + 1) i (omega arith)

-- the first that passes one test is the first that passes another of the same outcomes
first_same : (n : ℕ) (f g : ℕ → Bool) → ((k : ℕ) → k < n → f k ≡ g k) → first_below n f ≡ first_below n g
unfolding first_below
first_same zero f g e = refl
first_same (suc n) f g e =
    let a = first_same n f g (λ k l. e k (omega arith)) in
    let b = e n (omega arith) in
    cc

-- so the search among the first steps finds what the search among all does
pub found_in_front : (r : Rule) (s : List Step) → first_below (length s) (λ k. odd_last r (take (k + 1) s)) ≡ first_below (length s) (odd_at r s)
found_in_front r s = first_same (length s) (λ k. odd_last r (take (k + 1) s)) (odd_at r s) (odd_front r s)
