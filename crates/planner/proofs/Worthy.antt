-- What is true of the plan of jobs in book order on lawful steps.
use Rattle.std.proofs.Common.{List}
use Rattle.model.specs.Steps.{Lawful}
use Rattle.model.specs.Jobs.{Ordered}
use Rattle.model.specs.declared.job.Job.{Job}
use Rattle.model.specs.declared.step.Step.{Step}
use Rattle.planner.specs.Planning.{Worth}
use Rattle.theory.proofs.Planned.{plan_serves, plan_is_least, want_is_no_way}

pub worthy : (steps : List Step) (jobs : List Job) → Lawful steps → Ordered jobs → Worth steps jobs
worthy steps jobs l o =
    let w = want_is_no_way steps jobs l o in
    record {
      serves = plan_serves steps jobs l o;
      least = plan_is_least steps jobs l o;
      no_way = w.none;
      some_way = w.some;
    }
