-- Want of speed: a run of jobs with more work than the processor can do between its first arrival and its last deadline.
use Rattle.std.specs.Prelude.{ℕ, suc, ◌+◌, ◌-◌, ◌*◌, Bool, List, length, nat_lt}
use Rattle.model.specs.Sums.{sum_to, any_below, first_below}
use Rattle.model.specs.Steps.{top_speed}
use Rattle.model.specs.Jobs.{job_at}
use Rattle.model.specs.declared.job.Job.{Job}
use Rattle.model.specs.declared.step.Step.{Step}

-- the work of jobs i to j
unfoldable pub load : List Job → ℕ → ℕ → ℕ
load jobs i j = sum_to (suc j - i) (λ m. (job_at jobs (i + m)).work)

-- whether jobs i to j have more work than top speed × (deadline of j − arrival of i)
unfoldable pub overfull : List Step → List Job → ℕ → ℕ → Bool
overfull steps jobs i j = nat_lt (top_speed steps * ((job_at jobs j).deadline - (job_at jobs i).arrival)) (load jobs i j)

-- whether some overfull run ends with job j
unfoldable pub starved : List Step → List Job → ℕ → Bool
starved steps jobs j = any_below (suc j) (λ i. overfull steps jobs i j)

-- the first job that ends an overfull run, counted from 0; the number of jobs where none does
unfoldable pub wanting : List Step → List Job → ℕ
wanting steps jobs = first_below (length jobs) (starved steps jobs)

-- whether speed is wanting
unfoldable pub want : List Step → List Job → Bool
want steps jobs = nat_lt (wanting steps jobs) (length jobs)
