use Rattle.std.proofs.Common.{◌≡◌, ℕ, ◌+◌, ◌-◌, ◌≤◌, List, ◌∷◌, length}
use Rattle.model.specs.Plan.{segment}
use Rattle.model.specs.Steps.{speed_at, power_at}
use Rattle.model.specs.declared.segment.Segment.{Segment}
use Rattle.charges.specs.Owing.{owing}
use Rattle.charges.specs.Rows.{rows_of}
use Rattle.charges.proofs.settle.settle_segment.Given as goal

-- what has been paid, with what is owed for the ticks that are left at a step of this speed and power, stays the same
abbrev pub invariant-loop-left : goal.invariant-loop-left
invariant-loop-left g l =
    (l.at.grain ≤ 5040004000)
    × (l.left ≤ l.initial.left)
    × ((h : ℕ) → l.speed ≡ speed_at (g.P.Processor.steps l.processor) h → l.power ≡ power_at (g.P.Processor.steps l.processor) h → (rest : List Segment) (a : ℕ)
    → owing (g.P.Processor.steps l.processor) l.jobs (rows_of l.charges) l.at (segment h l.left ∷ rest) a
    ≡ owing (g.P.Processor.steps l.processor) l.jobs (rows_of l.initial.charges) l.initial.at (segment h l.initial.left ∷ rest) a)

abbrev pub decreases-loop-left : goal.decreases-loop-left
decreases-loop-left g l = l.left + (length l.jobs - l.at.job)
