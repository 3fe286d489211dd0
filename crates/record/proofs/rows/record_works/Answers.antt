use Rattle.record.proofs.Example.{worked}
use Rattle.record.proofs.rows.record_works.Goals as goal

pub returns : goal.returns
returns c = worked
