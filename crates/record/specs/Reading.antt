-- What bytes read as, as a record: its segments, or the first refusal; and the step at a tick.
use Rattle.std.specs.Prelude.{ℕ, zero, suc, ◌+◌, ◌-◌, cond, ◌&&◌, List, [], ◌∷◌, Some, None, Ok, Err, Option, Result, ◌==◌, nat_le, nat_lt}
use Rattle.model.specs.Plan.{segment}
use Rattle.model.specs.declared.segment.Segment.{Segment}
use Rattle.refusal.specs.Refusals.{Told, told_of, first_of}
use Rattle.refusal.specs.declared.refusal.Refusal.{Refusal}
use Rattle.record.specs.Got.{Got, got, refused, refuse, after}
use Rattle.record.specs.Numbers.{read_number}
use Rattle.record.specs.Writing.{joins}

-- a value that nothing refuses
abbrev pub unless_told : {X : Type 0} → Option Told → X → List ℕ → Got X
unless_told (Some t) x rest = refused t
unless_told None x rest = got x rest

-- the ticks of a segment at a step that the processor has
abbrev pub with_ticks : ℕ → ℕ → ℕ → ℕ → List ℕ → Got Segment
with_ticks before sum step ticks rest = unless_told (first_of (joins before sum (segment step ticks))) (segment step ticks) rest

-- the step of a segment, and then its ticks
abbrev pub with_step : ℕ → ℕ → ℕ → ℕ → List ℕ → Got Segment
with_step steps before sum step rest = cond (nat_le steps step) (refuse 21) (after (read_number rest) (with_ticks before sum step))

-- a segment of a processor of so many steps, after a step and a sum of ticks
unfoldable pub read_segment : ℕ → ℕ → ℕ → List ℕ → Got Segment
read_segment steps before sum bytes = after (read_number bytes) (with_step steps before sum)

-- the end: no byte may be left
unfoldable pub read_end : List ℕ → Got (List Segment)
read_end [] = got [] []
read_end (b ∷ bytes) = refuse 28

-- a segment before those that are read after it
abbrev pub ahead : Segment → Got (List Segment) → Got (List Segment)
ahead s g = after g (λ ss rest. got (s ∷ ss) rest)

-- so many segments, and then the end
unfoldable pub read_segments : ℕ → ℕ → ℕ → ℕ → List ℕ → Got (List Segment)
read_segments zero steps before sum bytes = read_end bytes
read_segments (suc n) steps before sum bytes =
    after (read_segment steps before sum bytes) (λ s rest. ahead s (read_segments n steps s.step (sum + s.ticks) rest))

-- the segments after their number, where there is room for so many
unfoldable pub with_count : ℕ → ℕ → ℕ → List ℕ → Got (List Segment)
with_count steps room n rest = cond (nat_lt 1024 n) (refuse 20) (cond (nat_lt room n) (refuse 18) (read_segments n steps steps 0 rest))

-- all that follows the kind
unfoldable pub read_body : ℕ → ℕ → List ℕ → Got (List Segment)
read_body steps room bytes = after (read_number bytes) (with_count steps room)

-- a record by a processor of this kind with so many steps
unfoldable pub read_record : ℕ → ℕ → ℕ → List ℕ → Got (List Segment)
read_record kind steps room [] = refuse 25
read_record kind steps room (b ∷ bytes) = cond (b == kind) (read_body steps room bytes) (refuse 27)

-- a record by any processor: a kind from 1 to 127, steps below 16, and room for as many segments as may be
unfoldable pub read_any : List ℕ → Got (List Segment)
read_any [] = refuse 25
read_any (b ∷ bytes) = cond (nat_le 1 b && nat_le b 127) (read_body 16 1024 bytes) (refuse 27)

-- the step at a tick, and 29 past the end
unfoldable pub step_at : List Segment → ℕ → ℕ
step_at [] tick = 29
step_at (s ∷ ss) tick = cond (nat_lt tick s.ticks) s.step (step_at ss (tick - s.ticks))

-- the machine's answer: the step at the tick, or the number of the refusal
abbrev pub machine_answer : Got (List Segment) → ℕ → ℕ
machine_answer (got ss rest) tick = step_at ss tick
machine_answer (refused t) tick = t.number

-- a call's answer as one number: its value or its refusal's number
abbrev pub numbered : Result ℕ Refusal → ℕ
numbered (Ok n) = n
numbered (Err e) = (told_of e).number
