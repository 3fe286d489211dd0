use Rattle.std.proofs.Common.{List}
use Rattle.model.specs.declared.segment.Segment.{Segment}
use Rattle.record.proofs.Sofar.{Sofar}
use Rattle.record.proofs.Ticking.{Holds}
use Rattle.record.proofs.check.check.Given as goal

-- the segments so far, with the step at the tick if they reach it
abbrev pub invariant-loop : goal.invariant-loop
invariant-loop l = (ss : List Segment) × Sofar l.segments l.reader.rest.now l.steps l.count l.counter l.tail ss × Holds l.steps l.tick ss l.step
