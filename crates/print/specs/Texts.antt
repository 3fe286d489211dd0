-- What is printed: a plan, or why there is none.
use Rattle.std.specs.Prelude.{ℕ, List, [], ◌∷◌, ◌++◌, codes, decimal}
use Rattle.model.specs.Charges.{cost}
use Rattle.model.specs.Plan.{plan}
use Rattle.model.specs.declared.job.Job.{Job}
use Rattle.model.specs.declared.segment.Segment.{Segment}
use Rattle.model.specs.declared.step.Step.{Step}
use Rattle.refusal.specs.Refusals.{Told}
use Rattle.grammar.specs.Pieces.{line_feed, space}

-- a segment: its step and its ticks
unfoldable pub segment_text : Segment → List ℕ
segment_text s = decimal s.step ++ (space ∷ (decimal s.ticks ++ (line_feed ∷ [])))

unfoldable pub segments_text : List Segment → List ℕ
segments_text [] = []
segments_text (s ∷ ss) = segment_text s ++ segments_text ss

-- `energy` and its number
unfoldable pub energy_text : ℕ → List ℕ
energy_text e = codes "energy " ++ (decimal e ++ (line_feed ∷ []))

-- segments, each on a line, and then their energy
abbrev pub text_of : List Segment → ℕ → List ℕ
text_of segments e = segments_text segments ++ energy_text e

-- the plan of jobs on a ladder
unfoldable pub plan_text : List Step → List Job → List ℕ
plan_text steps jobs = text_of (plan steps jobs) (cost steps jobs)

-- `refused`, the number and the line
unfoldable pub refused_text : Told → List ℕ
refused_text t = codes "refused " ++ (decimal t.number ++ (space ∷ (decimal t.detail ++ (line_feed ∷ []))))
