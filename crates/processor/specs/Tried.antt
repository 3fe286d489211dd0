-- A list of steps passes the table of rules exactly when it is lawful.
use Rattle.std.specs.Prelude.{◌≡◌, ℕ, zero, suc, ◌-◌, ◌*◌, ◌%◌, ◌<◌, ◌≤◌, true, false, ltb, List, [], ◌∷◌, length, is_some, None, ◌==◌, nat_eq, nat_le, nat_lt}
use Rattle.std.proofs.Common.{inl, inr, arith}
use mathlib.Core.Path.{refl, sym, subst, ap, ◌∙◌}
use Rattle.std.proofs.lemmas.Bool.{and_parts, and_cases, and_from, and_right, or_parts, or_from, both_ways, not-false, not_from_true, leb-true, le-leb, lt-leb, leb-false, ltb-false, le-ltb, eqb-true, eq-eqb, cond-false, ne_eqb, lt-ltb}
use Rattle.model.specs.Sums.{first_below}
use Rattle.model.specs.Steps.{unit, speed_at, power_at, gap, climb, Lawful}
use Rattle.model.specs.declared.step.Step.{Step}
use Rattle.model.proofs.First.{first_le, first_none, first_all}
use Rattle.refusal.specs.Refusals.{first_of}
use Rattle.refusal.proofs.Lines.{first_clear, first_pass}
use Rattle.processor.specs.declared.rule.Rule.{Rule}
use Rattle.processor.specs.declared.rule.Rule.TheVariants.{Speeds, Powers, Gaps, Bends}
use Rattle.processor.specs.Rules.{bad_count, count_line, odd_at, first_odd, rule_line, rule_lines, step_lines}

-- a rule's line does not hold: no step is at odds
passed : (r : Rule) (s : List Step) → (rule_line r s).holds ≡ false → (i : ℕ) → i < length s → odd_at r s i ≡ false
unfolding rule_line first_odd
passed r s e i l =
    let a : length s ≤ first_below (length s) (odd_at r s) = ltb-false _ _ e in
    let b = first_le (length s) (odd_at r s) in
    first_none (length s) (odd_at r s) (omega arith) i l

passes : (r : Rule) (s : List Step) → ((i : ℕ) → i < length s → odd_at r s i ≡ false) → (rule_line r s).holds ≡ false
unfolding rule_line first_odd
passes r s h = let a = first_all (length s) (odd_at r s) h in le-ltb _ _ (omega arith)

-- what a step that is not at odds keeps
first_speed : (s : List Step) → odd_at Speeds s 0 ≡ false → speed_at s 0 ≡ 0
unfolding odd_at
first_speed s e =
    let c : speed_at s 0 ≤ 0 = ltb-false 0 (speed_at s 0) (or_parts (nat_lt 4000 (speed_at s 0)) (nat_lt 0 (speed_at s 0)) e).1 in omega arith

speed_limit : (s : List Step) (i : ℕ) → odd_at Speeds s i ≡ false → speed_at s i ≤ 4000
unfolding odd_at
speed_limit s i e = ltb-false _ _ (or_parts _ _ e).0

speed_rises : (s : List Step) (i : ℕ) → odd_at Speeds s (suc i) ≡ false → speed_at s i < speed_at s (suc i)
unfolding odd_at
speed_rises s i e =
    let p : suc i - 1 ≡ i = omega arith in
    let z : nat_eq (suc i) 0 ≡ false = ne_eqb (suc i) 0 (λ h. omega arith) in
    let c = leb-false _ _ (sym (cond-false (suc i == 0) _ _ z) ∙ (or_parts _ _ e).1) in
    subst (λ (j : ℕ). speed_at s j < speed_at s (suc i)) p c

power_limit : (s : List Step) (i : ℕ) → odd_at Powers s i ≡ false → power_at s i ≤ 1000000
unfolding odd_at
power_limit s i e = ltb-false _ _ (or_parts _ _ e).0

power_rises : (s : List Step) (i : ℕ) → odd_at Powers s (suc i) ≡ false → power_at s i ≤ power_at s (suc i)
unfolding odd_at
power_rises s i e =
    let p : suc i - 1 ≡ i = omega arith in
    let z : ltb 0 (suc i) ≡ true = lt-ltb _ _ (omega arith) in
    elim (and_cases _ _ (or_parts _ _ e).1) [
      | inl f ↦ absurd (both_ways _ f z)
      | inr f ↦ subst (λ (j : ℕ). power_at s j ≤ power_at s (suc i)) p (ltb-false _ _ f)
    ]

gap_divides : (s : List Step) (i : ℕ) → odd_at Gaps s (suc i) ≡ false → unit % gap s i ≡ 0
unfolding odd_at
gap_divides s i e =
    let p : suc i - 1 ≡ i = omega arith in
    let z : ltb 0 (suc i) ≡ true = lt-ltb _ _ (omega arith) in
    elim (and_cases _ _ e) [
      | inl f ↦ absurd (both_ways _ f z)
      | inr f ↦ subst (λ (j : ℕ). unit % gap s j ≡ 0) p (eqb-true _ _ (not-false _ f))
    ]

power_bends : (s : List Step) (i : ℕ) → odd_at Bends s (suc (suc i)) ≡ false → climb s i * gap s (suc i) ≤ climb s (suc i) * gap s i
unfolding odd_at
power_bends s i e =
    let p : suc (suc i) - 1 ≡ suc i = omega arith in
    let q : suc (suc i) - 2 ≡ i = omega arith in
    let z : ltb 1 (suc (suc i)) ≡ true = lt-ltb _ _ (omega arith) in
    elim (and_cases _ _ e) [
      | inl f ↦ absurd (both_ways _ f z)
      | inr f ↦ mathlib.Core.Path.subst₂ (λ (j k : ℕ). climb s k * gap s j ≤ climb s j * gap s k) p q (ltb-false _ _ f)
    ]

-- what passes the table is lawful
pub lawful_from : (s : List Step) → is_some (first_of (step_lines s (length s))) ≡ false → Lawful s
lawful_from s e =
    let (c, e1) = first_clear (count_line (length s)) (rule_lines s) e in
    let (v, e2) = first_clear (rule_line Speeds s) (rule_line Powers s ∷ (rule_line Gaps s ∷ (rule_line Bends s ∷ []))) e1 in
    let (p, e3) = first_clear (rule_line Powers s) (rule_line Gaps s ∷ (rule_line Bends s ∷ [])) e2 in
    let (g, e4) = first_clear (rule_line Gaps s) (rule_line Bends s ∷ []) e3 in
    let (b, e5) = first_clear (rule_line Bends s) [] e4 in
    let (lo, hi) = and_parts (nat_le 2 (length s)) (nat_le (length s) 16) (not-false _ c) in
    let two : 2 ≤ length s = leb-true _ _ lo in
    record {
      least = two;
      most = leb-true _ _ hi;
      idle = first_speed s (passed Speeds s v 0 (omega (arith, two)));
      faster = λ i l. speed_rises s i (passed Speeds s v (suc i) l);
      fast = λ i l. speed_limit s i (passed Speeds s v i l);
      dearer = λ i l. power_rises s i (passed Powers s p (suc i) l);
      dear = λ i l. power_limit s i (passed Powers s p i l);
      even = λ i l. gap_divides s i (passed Gaps s g (suc i) l);
      bends = λ i l. power_bends s i (passed Bends s b (suc (suc i)) l);
    }

-- a lawful list has no step at odds
speeds_pass : (s : List Step) → Lawful s → (i : ℕ) → i < length s → odd_at Speeds s i ≡ false
unfolding odd_at
speeds_pass s k zero l =
    let e = k.idle in
    let a : speed_at s 0 ≤ 4000 = omega arith in
    let b : speed_at s 0 ≤ 0 = omega arith in
    or_from _ _ (le-ltb _ _ a) (le-ltb _ _ b)
speeds_pass s k (suc i) l =
    let p : suc i - 1 ≡ i = omega arith in
    let z : nat_eq (suc i) 0 ≡ false = ne_eqb (suc i) 0 (λ h. omega arith) in
    or_from _ _ (le-ltb _ _ (k.fast (suc i) l))
    (cond-false (suc i == 0) _ _ z ∙ lt-leb _ _ (subst (λ (j : ℕ). speed_at s j < speed_at s (suc i)) (sym p) (k.faster i l)))

powers_pass : (s : List Step) → Lawful s → (i : ℕ) → i < length s → odd_at Powers s i ≡ false
unfolding odd_at
powers_pass s k zero l = or_from _ _ (le-ltb _ _ (k.dear 0 l)) refl
powers_pass s k (suc i) l =
    let p : suc i - 1 ≡ i = omega arith in
    or_from _ _ (le-ltb _ _ (k.dear (suc i) l))
    (and_right _ _ (le-ltb _ _ (subst (λ (j : ℕ). power_at s j ≤ power_at s (suc i)) (sym p) (k.dearer i l))))

gaps_pass : (s : List Step) → Lawful s → (i : ℕ) → i < length s → odd_at Gaps s i ≡ false
unfolding odd_at
gaps_pass s k zero l = refl
gaps_pass s k (suc i) l =
    let p : suc i - 1 ≡ i = omega arith in
    and_right _ _ (not_from_true _ (eq-eqb _ _ (subst (λ (j : ℕ). unit % gap s j ≡ 0) (sym p) (k.even i l))))

bends_pass : (s : List Step) → Lawful s → (i : ℕ) → i < length s → odd_at Bends s i ≡ false
unfolding odd_at
bends_pass s k zero l = refl
bends_pass s k (suc zero) l = refl
bends_pass s k (suc (suc i)) l =
    let p : suc (suc i) - 1 ≡ suc i = omega arith in
    let q : suc (suc i) - 2 ≡ i = omega arith in
    and_right _ _ (le-ltb _ _ (mathlib.Core.Path.subst₂ (λ (j m : ℕ). climb s m * gap s j ≤ climb s j * gap s m) (sym p) (sym q) (k.bends i l)))

-- and passes the table
pub passes_from : (s : List Step) → Lawful s → first_of (step_lines s (length s)) ≡ None
passes_from s k =
    let c : bad_count (length s) ≡ false = not_from_true _ (and_from _ _ (le-leb _ _ k.least) (le-leb _ _ k.most)) in
    first_pass (count_line (length s)) (rule_lines s) c
    ∙ (first_pass (rule_line Speeds s) (rule_line Powers s ∷ (rule_line Gaps s ∷ (rule_line Bends s ∷ []))) (passes Speeds s (speeds_pass s k))
    ∙ (first_pass (rule_line Powers s) (rule_line Gaps s ∷ (rule_line Bends s ∷ [])) (passes Powers s (powers_pass s k))
    ∙ (first_pass (rule_line Gaps s) (rule_line Bends s ∷ []) (passes Gaps s (gaps_pass s k))
    ∙ first_pass (rule_line Bends s) [] (passes Bends s (bends_pass s k)))))
