-- A table of rules, tried rule by rule.
use Rattle.std.proofs.Common.{◌≡◌, ℕ, ◌+◌, ◌<◌, Bool, true, false, cond, ltb, List, length, drop, map, get_or, Some, None, sym, ap, add-one}
use Rattle.std.proofs.Math.Seq.{drop-cons}
use Rattle.model.specs.declared.step.Step.{Step}
use Rattle.refusal.specs.Refusals.{told, Line, first_of}
use Rattle.processor.specs.declared.rule.Rule.{Rule}
use Rattle.processor.specs.Rules.{first_odd, odd_step, rule_line, rule_number}

abbrev pub table : List Rule → List Step → List Line
table rs s = map (λ (r : Rule). rule_line r s) rs

there : (b : Bool) (n j : ℕ) → cond b (Some n) None ≡ Some j → (b ≡ true) × (n ≡ j)
there true n j e = (cc, cc)
there false n j e = absurd (cc)

nowhere : (b : Bool) (n : ℕ) → cond b (Some n) None ≡ None → b ≡ false
nowhere true n e = absurd (cc)
nowhere false n e = cc

-- the first of the rules left that is broken gives the refusal
pub broken :
    (rs : List Rule) (s : List Step) (i j : ℕ) (d : Rule) → i < length rs → odd_step (get_or rs i d) s ≡ Some j
    → Some (told (rule_number (get_or rs i d)) j) ≡ first_of (table (drop i rs) s)
unfolding odd_step rule_line
broken rs s i j d l e =
    let r : Rule = get_or rs i d in
    let (h, k) = there (ltb (first_odd r s) (length s)) (first_odd r s) j e in
    rw (drop-cons rs i d l, h) (ap (λ (n : ℕ). Some (told (rule_number r) n)) (sym k))

-- one that is kept is passed over
pub kept :
    (rs : List Rule) (s : List Step) (i : ℕ) (d : Rule) → i < length rs → odd_step (get_or rs i d) s ≡ None
    → first_of (table (drop i rs) s) ≡ first_of (table (drop (i + 1) rs) s)
unfolding odd_step rule_line
kept rs s i d l e =
    let r : Rule = get_or rs i d in
    let h = nowhere (ltb (first_odd r s) (length s)) (first_odd r s) e in
    rw (add-one i, drop-cons rs i d l, h)
