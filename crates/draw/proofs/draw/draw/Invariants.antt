use Rattle.draw.proofs.Going.{Going}
use Rattle.draw.proofs.Pairs.{at, Left}
use Rattle.draw.proofs.draw.draw.Given as goal

-- what has been drawn and what is still to come give the plan
abbrev pub invariant-loop-pair : goal.invariant-loop-pair
invariant-loop-pair g l = record {
  left : Left l.cuts l.pair-iterator;
  going : Going (g.P.Processor.steps l.processor) l.jobs l.corners (at l.cuts l.pair-iterator) l.lane l.drawing;
}
