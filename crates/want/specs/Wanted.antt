-- What the search for want of speed answers.
use Rattle.std.specs.Prelude.{ℕ, cond, List, Some, None, Option}
use Rattle.model.specs.Speed.{wanting, want}
use Rattle.model.specs.declared.job.Job.{Job}
use Rattle.model.specs.declared.step.Step.{Step}

-- the first job that ends an overfull run, counted from 0, where one does
unfoldable pub wanted : List Step → List Job → Option ℕ
wanted steps jobs = cond (want steps jobs) (Some (wanting steps jobs)) None
