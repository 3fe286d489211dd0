use Rattle.record.proofs.Measured.{Measured}
use Rattle.record.proofs.write.measure.Given as goal

-- the first segments, up to this one, have no fault
abbrev pub invariant-loop-segment : goal.invariant-loop-segment
invariant-loop-segment l = Measured l.steps l.segment-index l.tail.step l.tail.ticks l.length l.segments
