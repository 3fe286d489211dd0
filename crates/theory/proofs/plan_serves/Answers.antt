use Rattle.theory.proofs.Planned.{plan_serves}
use Rattle.theory.proofs.plan_serves.Goals as goal

pub returns : goal.returns
returns c = plan_serves
