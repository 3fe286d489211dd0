use Rattle.theory.proofs.Planned.{plan_is_least}
use Rattle.theory.proofs.plan_is_least.Goals as goal

pub returns : goal.returns
returns c = plan_is_least
