use Rattle.std.proofs.Common.{refl}
use Rattle.theory.specs.Sweep.{inner}
use Rattle.sweep.proofs.wall.FloorWall.inner.Goals as goal

pub returns : goal.returns
unfolding inner
returns c = refl
