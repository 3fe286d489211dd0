use Rattle.std.proofs.Common.{◌≡◌, ◌+◌, length}
use Rattle.sweep.specs.Views.{view, end}
use Rattle.theory.specs.Sweep.{inner, pass}
use Rattle.sweep.proofs.Passes.{Along}
use Rattle.sweep.proofs.pass.pass.Given as goal

abbrev pub invariant-loop-c : goal.invariant-loop-c
invariant-loop-c g l =
    Along (inner g.W.Wall.upper) l.x (view l.way.corners) l.way.apex (view l.other) (view l.initial.way.corners) (pass (inner g.W.Wall.upper) l.x l.initial.way.apex (view l.initial.other))
    × (end l.other ≡ end l.initial.other)
    × (l.way.corners.start ≡ l.initial.way.corners.start)
    × (end l.way.corners + l.initial.other.start ≡ end l.initial.way.corners + l.other.start)

abbrev pub decreases-loop-c : goal.decreases-loop-c
decreases-loop-c g l = length (view l.other)
