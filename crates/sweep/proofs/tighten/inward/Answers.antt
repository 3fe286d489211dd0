use Rattle.theory.specs.Sweep.{inward}
use Rattle.sweep.proofs.tighten.inward.Goals as goal

pub returns : goal.returns
unfolding inward
returns g c = cc
