use Rattle.model.specs.Plan.{ticks_between}
use Rattle.draw.specs.Lanes.{fast_of}
use Rattle.draw.proofs.lane.Lane.fast.Goals as goal

pub returns : goal.returns
unfolding fast_of ticks_between
returns c = cc
