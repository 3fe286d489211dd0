use Rattle.std.proofs.Common.{take}
use Rattle.print.specs.Texts.{segments_text}
use Rattle.text.specs.Writing.{Wrote}
use Rattle.print.proofs.plan.put_segments.Given as goal

-- some segments are written
abbrev pub invariant-loop-segment : goal.invariant-loop-segment
invariant-loop-segment l = Wrote l.fn.pen l.pen (segments_text (take l.segment-index l.fn.segments))
