use Rattle.std.proofs.Common.{◌≡◌, ℕ, ◌≤◌, drop}
use Rattle.charges.specs.Owing.{owing}
use Rattle.charges.specs.Rows.{rows_of}
use Rattle.charges.proofs.settle.settle.Given as goal

-- what has been paid, with what is owed for the segments from one on, is what was owed for all
abbrev pub invariant-loop-segment : goal.invariant-loop-segment
invariant-loop-segment g l =
    (l.at.grain ≤ 5040004000)
    × ((a : ℕ)
    → owing (g.P.Processor.steps l.processor) l.jobs (rows_of l.charges) l.at (drop l.segment-index l.segments) a
    ≡ owing (g.P.Processor.steps l.processor) l.jobs (rows_of l.initial.charges) l.initial.at l.segments a)
