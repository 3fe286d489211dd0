-- What the merge knows at a time: how many of the jobs each wall has counted, and the sum of their works.
use Rattle.std.specs.Prelude.{◌≡◌, ℕ, ◌<◌, ◌≤◌, min, Bool, true, false, cond, List, length, nat_le}
use Rattle.model.specs.Sums.{sum_to}
use Rattle.model.specs.Jobs.{job_at}
use Rattle.model.specs.declared.job.Job.{Job}
use Rattle.survey.specs.declared.front.Front.{Front}
use Rattle.survey.specs.declared.front.Fronts.{Fronts}

-- the time at which a wall counts a job: the upper one at its arrival, the lower one at its deadline
abbrev pub time_of : Bool → Job → ℕ
time_of true j = j.arrival
time_of false j = j.deadline

-- the front has the jobs that a wall counts before time t: they are the first ones
pub record Before (up : Bool) (jobs : List Job) (t : ℕ) (f : Front) : Type 0 where
  pub within : f.count ≤ length jobs
  pub whole : f.work ≡ sum_to f.count (λ i. (job_at jobs i).work)
  pub past : (i : ℕ) → i < f.count → time_of up (job_at jobs i) < t
  pub ahead : (i : ℕ) → f.count ≤ i → i < length jobs → t ≤ time_of up (job_at jobs i)

-- the same at both walls
pub record Both (jobs : List Job) (t : ℕ) (f : Fronts) : Type 0 where
  pub upper : Before true jobs t f.came
  pub lower : Before false jobs t f.due

-- the first arrival or deadline that is still ahead
unfoldable pub soonest : List Job → Fronts → ℕ
soonest jobs f =
    cond (nat_le (length jobs) f.came.count)
    (job_at jobs f.due.count).deadline
    (min (job_at jobs f.came.count).arrival (job_at jobs f.due.count).deadline)
