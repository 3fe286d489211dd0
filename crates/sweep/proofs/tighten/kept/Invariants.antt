use Rattle.std.proofs.Common.{◌≡◌, ◌<◌, ◌≤◌, false, ◌∷◌, length, get_or, take}
use Rattle.model.specs.Path.{start}
use Rattle.theory.specs.Sweep.{inner, inward}
use Rattle.sweep.proofs.tighten.kept.Given as goal

-- the first point that is not of the front, if there is one, goes
abbrev pub invariant-loop-front : goal.invariant-loop-front
invariant-loop-front g l = record {
  few : length l.front ≤ length l.chain;
  front : l.front ≡ take (length l.front) l.chain;
  goes : length l.front < length l.chain → inward (inner g.W.Wall.upper) (get_or (l.apex ∷ l.chain) (length l.front) start) (get_or l.chain (length l.front) start) l.x ≡ false;
}

abbrev pub decreases-loop-front : goal.decreases-loop-front
decreases-loop-front g l = length l.front
