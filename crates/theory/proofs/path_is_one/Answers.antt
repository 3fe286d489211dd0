use Rattle.theory.proofs.Planned.{path_is_one}
use Rattle.theory.proofs.path_is_one.Goals as goal

pub returns : goal.returns
returns c = path_is_one
