use Rattle.std.proofs.Common.{length, take}
use Rattle.record.proofs.Sofar.{Sofar}
use Rattle.record.proofs.check.fill.Given as goal

-- the segments so far stand in the part
abbrev pub invariant-loop-slot : goal.invariant-loop-slot
invariant-loop-slot l = Sofar l.segments l.reader.rest.now l.steps (length l.initial.part) l.slot-index l.tail (take l.slot-index l.part)
