use Rattle.theory.proofs.Paying.{charges_add_up}
use Rattle.theory.proofs.charges_add_up.Goals as goal

pub returns : goal.returns
returns c = charges_add_up
