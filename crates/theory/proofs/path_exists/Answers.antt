use Rattle.theory.proofs.Planned.{path_exists}
use Rattle.theory.proofs.path_exists.Goals as goal

pub returns : goal.returns
returns c = path_exists
