-- What the ghost fields of a ladder and of a formula give.
use Rattle.std.specs.Prelude.{◌≡◌, ℕ, ◌%◌, ◌<◌, ◌≤◌, false, not, ◌&&◌, List, [], ◌∷◌, length, take, is_some, ◌==◌, nat_le, nat_lt, slice_index_or}
use Rattle.std.proofs.Common.{sym, subst, arith}
use Rattle.std.proofs.lemmas.List.{length-take-le, get_or-take, get_or_past}
use Rattle.std.proofs.lemmas.Bool.{and_parts, not-false, leb-true, ltb-false, eqb-true}
use Rattle.model.specs.Steps.{unit, no_step, Lawful}
use Rattle.model.specs.declared.step.Step.{Step}
use Rattle.refusal.specs.Refusals.{line, first_of}
use Rattle.refusal.proofs.Lines.{first_clear}
use Rattle.processor.specs.Rules.{bad_count, count_line, rule_lines, step_lines}
use Rattle.processor.specs.Formulas.{good_stride, formula_steps, formula_refusal}
use Rattle.processor.specs.Tried.{lawful_from}
use Rattle.processor.specs.Figures.{figures_lawful}

counted : (n : ℕ) → bad_count n ≡ false → (2 ≤ n) × (n ≤ 16)
counted n e = let (a, b) = and_parts (nat_le 2 n) (nat_le n 16) (not-false _ e) in (leb-true _ _ a, leb-true _ _ b)

-- a ladder has as many steps as it counts
pub ladder_length : (s : List Step) (n : ℕ) → length s ≡ 16 → is_some (first_of (step_lines (take n s) n)) ≡ false → length (take n s) ≡ n
ladder_length s n e h =
    let k = counted n (first_clear (count_line n) (rule_lines (take n s)) h).0 in
    length-take-le n s (omega arith)

-- and keeps the rules
pub ladder_lawful : (s : List Step) (n : ℕ) → length s ≡ 16 → is_some (first_of (step_lines (take n s) n)) ≡ false → Lawful (take n s)
ladder_lawful s n e h =
    lawful_from (take n s) (subst (λ (m : ℕ). is_some (first_of (step_lines (take n s) m)) ≡ false) (sym (ladder_length s n e h)) h)

-- the limits within which a formula's figures are
pub record Within (n q a b c : ℕ) : Type 0 where
  pub few : 2 ≤ n
  pub many : n ≤ 16
  pub some : 1 ≤ q
  pub wide : q ≤ 252
  pub even : unit % q ≡ 0
  pub constant : a ≤ 100000
  pub linear : b ≤ 10000
  pub cubic : c ≤ 200

pub within : (n q a b c : ℕ) → is_some (formula_refusal n q a b c) ≡ false → Within n q a b c
within n q a b c e =
    let l5 = line (nat_lt 200 c) 7 3 ∷ [] in
    let l4 = line (nat_lt 10000 b) 7 1 ∷ l5 in
    let l3 = line (nat_lt 100000 a) 7 0 ∷ l4 in
    let l2 = line (not (good_stride q)) 6 0 ∷ l3 in
    let (e1, d1) = first_clear (count_line n) l2 e in
    let (e2, d2) = first_clear (line (not (good_stride q)) 6 0) l3 d1 in
    let (e3, d3) = first_clear (line (nat_lt 100000 a) 7 0) l4 d2 in
    let (e4, d4) = first_clear (line (nat_lt 10000 b) 7 1) l5 d3 in
    let (e5, d5) = first_clear (line (nat_lt 200 c) 7 3) [] d4 in
    let (s1, s) = and_parts (nat_le 1 q) (nat_le q 252 && unit % q == 0) (not-false _ e2) in
    let (s2, s3) = and_parts (nat_le q 252) (unit % q == 0) s in
    let k = counted n e1 in
    record {
      few = k.0;
      many = k.1;
      some = leb-true _ _ s1;
      wide = leb-true _ _ s2;
      even = eqb-true _ _ s3;
      constant = ltb-false _ _ e3;
      linear = ltb-false _ _ e4;
      cubic = ltb-false _ _ e5;
    }

-- a formula keeps the rules
pub formula_lawful : (n q a b c : ℕ) → is_some (formula_refusal n q a b c) ≡ false → Lawful (formula_steps n q a b c)
formula_lawful n q a b c e =
    let w = within n q a b c e in
    figures_lawful n q a b c w.few w.many w.some w.wide w.even w.constant w.linear w.cubic

-- a ladder's step, and one that it lacks
pub ladder_step : (s : List Step) (n i : ℕ) → i < n → slice_index_or (take n s) i no_step ≡ slice_index_or s i no_step
ladder_step s n i l = get_or-take n s i no_step l

pub ladder_past :
    (s : List Step) (n i : ℕ) → length s ≡ 16 → is_some (first_of (step_lines (take n s) n)) ≡ false → n ≤ i → slice_index_or (take n s) i no_step ≡ no_step
ladder_past s n i e h l = let k = ladder_length s n e h in get_or_past (take n s) i no_step (omega arith)
