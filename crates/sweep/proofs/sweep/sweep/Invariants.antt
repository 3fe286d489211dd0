use Rattle.std.proofs.Common.{◌≡◌, ◌+◌, ◌≤◌}
use Rattle.sweep.specs.Views.{view, end}
use Rattle.sweep.proofs.Going.{Going}
use Rattle.sweep.proofs.sweep.sweep.Given as goal

-- a point was put for each cut at most, and each corner was the first of a chain
abbrev pub invariant-loop-cut : goal.invariant-loop-cut
invariant-loop-cut l = record {
  going : Going l.cuts l.cut-index (view l.way.corners) l.way.apex (view l.upper) (view l.lower);
  above : end l.upper ≤ l.cut-index;
  below : end l.lower ≤ l.cut-index;
  tally : end l.way.corners ≡ l.upper.start + l.lower.start;
}
