use Rattle.std.proofs.Common.{refl}
use Rattle.charges.specs.Rows.{rows_of}
use Rattle.charges.proofs.charges.Charges.new.Goals as goal

pub returns : goal.returns
unfolding rows_of
returns c = refl
