use Rattle.model.specs.Steps.{top_speed}
use Rattle.std.proofs.Common.{rules}
use Rattle.want.proofs.search.top_speed.Goals as goal

pub returns : goal.returns
unfolding top_speed
returns g c = search rules
