use Rattle.model.specs.Path.{run, height_on}
use Rattle.model.specs.Plan.{done_at}
use Rattle.draw.proofs.lane.Lane.done.Goals as goal

pub returns : goal.returns
unfolding done_at height_on run
returns c = cc
