use Rattle.std.proofs.Common.{rules}
use Rattle.model.specs.Path.{run}
use Rattle.sweep.proofs.tighten.run.Goals as goal

pub returns : goal.returns
unfolding run
returns c = search rules
