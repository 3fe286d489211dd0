use Rattle.record.proofs.Begun.{Begun}
use Rattle.record.proofs.write.put.Given as goal

-- the segments before this one are written
abbrev pub invariant-loop-segment : goal.invariant-loop-segment
invariant-loop-segment l = Begun l.initial.at l.at l.segment-index l.segments l.initial.frame l.frame
