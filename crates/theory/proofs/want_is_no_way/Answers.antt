use Rattle.theory.proofs.Planned.{want_is_no_way}
use Rattle.theory.proofs.want_is_no_way.Goals as goal

pub returns : goal.returns
returns c = want_is_no_way
