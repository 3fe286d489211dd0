-- The record of a plan: a kind, the number of segments, and each segment's step and ticks; and what keeps it from being written.
use Rattle.std.specs.Prelude.{ℕ, ◌+◌, cond, ◌||◌, List, [], ◌∷◌, ◌++◌, length, Some, None, Ok, Err, Option, Result, ◌==◌, nat_le, nat_lt}
use Rattle.model.specs.declared.segment.Segment.{Segment}
use Rattle.refusal.specs.Refusals.{Told, told, Line, line, first_of}
use Rattle.record.specs.Numbers.{number_bytes}

-- the most ticks that a plan can have
abbrev pub most_ticks : ℕ
most_ticks = 1008000000

-- a segment's step, then its ticks
unfoldable pub segment_bytes : Segment → List ℕ
segment_bytes s = number_bytes s.step ++ number_bytes s.ticks

-- segments one after the other
unfoldable pub segments_bytes : List Segment → List ℕ
segments_bytes [] = []
segments_bytes (s ∷ ss) = segment_bytes s ++ segments_bytes ss

-- the record by a kind of processor
unfoldable pub record_bytes : ℕ → List Segment → List ℕ
record_bytes kind ss = kind ∷ (number_bytes (length ss) ++ segments_bytes ss)

-- the first refusal of two, if there is any
abbrev pub or_else : Option Told → Option Told → Option Told
or_else (Some t) o = Some t
or_else None o = o

-- what keeps a segment from standing after a step and a sum of ticks
abbrev pub joins : ℕ → ℕ → Segment → List Line
joins before sum s = line (s.ticks == 0 || s.step == before) 22 0 ∷ (line (nat_lt most_ticks (sum + s.ticks)) 23 0 ∷ [])

-- the first fault in segments of a processor of so many steps, after a step and a sum of ticks
unfoldable pub faults : ℕ → ℕ → ℕ → List Segment → Option Told
faults steps before sum [] = None
faults steps before sum (s ∷ ss) = or_else (first_of (line (nat_le steps s.step) 21 0 ∷ joins before sum s)) (faults steps s.step (sum + s.ticks) ss)

-- a refusal if there is one, and otherwise what follows
abbrev pub unless : Option Told → Result ℕ Told → Result ℕ Told
unless (Some t) r = Err t
unless None r = r

-- what follows unless a plan has a fault; the step before the first segment is one that is lacking, so that none repeats it
abbrev pub passed : ℕ → List Segment → Result ℕ Told → Result ℕ Told
passed steps ss r = cond (nat_lt 1024 (length ss)) (Err (told 20 0)) (unless (faults steps steps 0 ss) r)

-- so many bytes written where there is so much room
abbrev pub fitted : ℕ → ℕ → Result ℕ Told
fitted room n = cond (nat_lt room n) (Err (told 24 n)) (Ok n)

-- the answer of writing by a processor of this kind with so many steps, where so many bytes are free
abbrev pub write_answer : ℕ → ℕ → List Segment → ℕ → Result ℕ Told
write_answer kind steps ss room = passed steps ss (fitted room (length (record_bytes kind ss)))
