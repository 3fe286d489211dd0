-- The queue of standing jobs: which jobs may stand, and when one more is refused.
use Rattle.std.specs.Prelude.{suc, ◌-◌, Bool, not, ◌&&◌, List, [], ◌∷◌, length, nat_le, nat_lt}
use Rattle.model.specs.Sums.{all_below}
use Rattle.model.specs.Jobs.{job_at}
use Rattle.model.specs.declared.job.Job.{Job}
use Rattle.refusal.specs.Refusals.{Line, line}

-- an arrival below the deadline, and the deadline at most 200,000
abbrev pub good_times : Job → Bool
good_times j = nat_lt j.arrival j.deadline && nat_le j.deadline 200000

-- a work from 1 to 1,000,000
abbrev pub good_work : Job → Bool
good_work j = nat_le 1 j.work && nat_le j.work 1000000

-- an account from 1 to 64
abbrev pub good_account : Job → Bool
good_account j = nat_le 1 j.account && nat_le j.account 64

-- neither arrival nor deadline of the second is below that of the first
abbrev pub follows : Job → Job → Bool
follows i j = nat_le i.arrival j.arrival && nat_le i.deadline j.deadline

-- the last job
unfoldable pub last_of : List Job → Job
last_of jobs = job_at jobs (length jobs - 1)

-- how one job more is refused, or that it is not
abbrev pub push_lines : List Job → Job → List Line
push_lines jobs j =
    line (nat_le 256 (length jobs)) 9 0
    ∷ (line (not (good_times j)) 10 0
    ∷ (line (not (good_work j)) 11 0
    ∷ (line (not (good_account j)) 12 0
    ∷ (line (not (follows (last_of jobs) j)) 13 0 ∷ []))))

-- whether a job is within its limits
abbrev pub fit : Job → Bool
fit j = good_times j && (good_work j && good_account j)

-- what a queue keeps: each job is within its limits, and follows the one before
unfoldable pub standing : List Job → Bool
standing jobs = all_below (length jobs) (λ i. fit (job_at jobs i)) && all_below (length jobs - 1) (λ i. follows (job_at jobs i) (job_at jobs (suc i)))
