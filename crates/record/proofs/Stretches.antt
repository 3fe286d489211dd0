-- One segment read: its step, then its ticks, each with what refuses it there.
use Rattle.std.proofs.Common.{◌≡◌, ℕ, ◌+◌, ◌<◌, ◌≤◌, ◌||◌, eqb, ltb, List, [], ◌∷◌, ◌++◌, is_some, None, Option, sym, ap, ◌∙◌, arith}
use Rattle.model.specs.Plan.{segment}
use Rattle.model.specs.declared.segment.Segment.{Segment}
use Rattle.refusal.specs.Refusals.{Told, line, first_of}
use Rattle.refusal.proofs.Lines.{first_clear}
use Rattle.std.proofs.lemmas.List.{append_assoc}
use Rattle.std.proofs.lemmas.Bool.Decides.{nat_tests}
use Rattle.std.proofs.lemmas.Bool.{ltb-false}
use Rattle.record.specs.Got.{Got, got, refused, refuse, after}
use Rattle.record.specs.Numbers.{number_bytes, read_number}
use Rattle.record.specs.Writing.{joins, segment_bytes, most_ticks}
use Rattle.record.specs.Reading.{read_segment, with_step, with_ticks, unless_told}

pub no_step : (steps before sum : ℕ) (bytes : List ℕ) (t : Told) → refused t ≡ read_number bytes → refused t ≡ read_segment steps before sum bytes
unfolding read_segment
no_step steps before sum bytes t e = ap (λ (g : Got ℕ). after g (with_step steps before sum)) e

after_step : (steps before sum step : ℕ) (bytes rest : List ℕ) → got step rest ≡ read_number bytes → with_step steps before sum step rest ≡ read_segment steps before sum bytes
unfolding read_segment
after_step steps before sum step bytes rest e = ap (λ (g : Got ℕ). after g (with_step steps before sum)) e

pub lacking : (steps before sum step : ℕ) (bytes rest : List ℕ) → got step rest ≡ read_number bytes → steps ≤ step → refuse 21 ≡ read_segment steps before sum bytes
lacking steps before sum step bytes rest e l =
    let h = after_step steps before sum step bytes rest e in grind (arith, nat_tests)

at_ticks : (steps before sum step : ℕ) (bytes rest : List ℕ) → got step rest ≡ read_number bytes → step < steps
    → after (read_number rest) (with_ticks before sum step) ≡ read_segment steps before sum bytes
at_ticks steps before sum step bytes rest e l =
    let h = after_step steps before sum step bytes rest e in grind (arith, nat_tests)

pub no_ticks : (steps before sum step : ℕ) (bytes rest : List ℕ) (t : Told) → got step rest ≡ read_number bytes → step < steps → refused t ≡ read_number rest
    → refused t ≡ read_segment steps before sum bytes
no_ticks steps before sum step bytes rest t e l f = ap (λ (g : Got ℕ). after g (with_ticks before sum step)) f ∙ at_ticks steps before sum step bytes rest e l

-- whatever the joining says
pub joined_as : (steps before sum step ticks : ℕ) (bytes rest end : List ℕ) (o : Option Told) → got step rest ≡ read_number bytes → step < steps → got ticks end ≡ read_number rest
    → o ≡ first_of (joins before sum (segment step ticks))
    → unless_told o (segment step ticks) end ≡ read_segment steps before sum bytes
joined_as steps before sum step ticks bytes rest end o e l f j =
    ap (λ (p : Option Told). unless_told p (segment step ticks) end) j
    ∙ ap (λ (g : Got ℕ). after g (with_ticks before sum step)) f
    ∙ at_ticks steps before sum step bytes rest e l

-- what joins keeps within the ticks that a plan can have
pub joins_short : (before sum : ℕ) (s : Segment) → None ≡ first_of (joins before sum s) → sum + s.ticks ≤ 1008000000
joins_short before sum s e =
    let a = first_clear (line (eqb s.ticks 0 || eqb s.step before) 22 0) (line (ltb most_ticks (sum + s.ticks)) 23 0 ∷ []) (ap is_some (sym e)) in
    let b = first_clear (line (ltb most_ticks (sum + s.ticks)) 23 0) [] a.1 in
    ltb-false most_ticks (sum + s.ticks) b.0

-- the bytes of its two numbers are those of the segment
pub segment_there : (step ticks : ℕ) (bytes rest end : List ℕ) → bytes ≡ number_bytes step ++ rest → rest ≡ number_bytes ticks ++ end
    → bytes ≡ segment_bytes (segment step ticks) ++ end
unfolding segment_bytes segment
segment_there step ticks bytes rest end e f =
    e ∙ ap (λ (xs : List ℕ). number_bytes step ++ xs) f ∙ sym (append_assoc (number_bytes step) (number_bytes ticks) end)
