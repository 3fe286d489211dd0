use Rattle.theory.proofs.Rows.{rows_hold, paths_bend}
use Rattle.theory.proofs.rows_hold.Goals as goal

pub returns : goal.returns
returns c = record { plans = rows_hold; paths = paths_bend }
