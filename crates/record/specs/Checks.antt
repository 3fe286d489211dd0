-- What a check of all that follows the kind says of a record that passes.
use Rattle.std.specs.Prelude.{◌≡◌, ℕ, ◌<◌, ◌≤◌, Bool, true, false, List, [], ◌++◌, length, Ok, Err, Option, Result, MatchOption}
use Rattle.model.specs.Plan.{ticks_of}
use Rattle.model.specs.declared.segment.Segment.{Segment}
use Rattle.refusal.specs.Refusals.{told_of}
use Rattle.refusal.specs.declared.refusal.Refusal.{Refusal}
use Rattle.record.specs.Got.{Got, got, refused}
use Rattle.record.specs.Numbers.{number_bytes}
use Rattle.record.specs.Writing.{segments_bytes}
use Rattle.record.specs.Reading.{read_body, read_segments, step_at}
use Rattle.record.specs.declared.check.Passed.{Passed}

-- whether a reading came to its end
abbrev pub accepted : {X : Type 0} → Got X → Bool
accepted (got x rest) = true
accepted (refused t) = false

-- the step at a tick, one of the processor's; there is none where the tick is past the end
abbrev pub Stands : ℕ → ℕ → List Segment → Option ℕ → Type 0
Stands steps tick ss step = MatchOption step (ticks_of ss ≤ tick) (λ s. (tick < ticks_of ss) × (s ≡ step_at ss tick) × (s < steps))

-- what was found belongs to the segments that were read
pub record Found (bytes : List ℕ) (steps room tick : ℕ) (p : Passed) (ss : List Segment) : Type 0 where
  -- the bytes read as these segments, and do so again from the first segment on
  pub reads : read_body steps room bytes ≡ got ss []
  pub again : read_segments p.count steps steps 0 p.segments.now ≡ got ss []
  -- the bytes are those of these segments
  pub exact : bytes ≡ number_bytes (length ss) ++ segments_bytes ss
  -- how many there are, and that there is room for them
  pub count : p.count ≡ length ss
  pub few : p.count ≤ room
  -- the step at the tick, if they reach it
  pub step : Stands steps tick ss p.step

-- the refusal by the bytes, or segments with what was found
abbrev pub Checks : List ℕ → ℕ → ℕ → ℕ → Result Passed Refusal → Type 0
Checks bytes steps room tick (Ok p) = (ss : List Segment) × Found bytes steps room tick p ss
Checks bytes steps room tick (Err e) = read_body steps room bytes ≡ refused (told_of e)
