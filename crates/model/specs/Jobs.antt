-- Jobs in book order, the two walls that they make, and the times at which something changes.
use Rattle.std.specs.Prelude.{ℕ, suc, ◌<◌, ◌≤◌, max, Bool, cond, List, [], ◌∷◌, length, ◌==◌, nat_eq, nat_le, nat_lt, slice_index_or}
use Rattle.model.specs.Sums.{sum_of, some_of}
use Rattle.model.specs.declared.job.Job.{Job}

-- what stands for a job past the last
abbrev pub no_job : Job
no_job = record { arrival = 0; deadline = 0; work = 0; account = 0 }

-- job number i, from 0
unfoldable pub job_at : List Job → ℕ → Job
job_at jobs i = slice_index_or jobs i no_job

-- book order: each job has time and work, and along the list neither arrivals nor deadlines fall
pub record Ordered (jobs : List Job) : Type 0 where
  pub timely : (i : ℕ) → i < length jobs → (job_at jobs i).arrival < (job_at jobs i).deadline
  pub worked : (i : ℕ) → i < length jobs → 0 < (job_at jobs i).work
  pub arrivals : (i : ℕ) → suc i < length jobs → (job_at jobs i).arrival ≤ (job_at jobs (suc i)).arrival
  pub deadlines : (i : ℕ) → suc i < length jobs → (job_at jobs i).deadline ≤ (job_at jobs (suc i)).deadline

-- the work of all jobs
unfoldable pub total : List Job → ℕ
total jobs = sum_of (λ j. j.work) jobs

-- the last deadline, 0 without jobs: the span runs from time 0 to it
unfoldable pub span : List Job → ℕ
span [] = 0
span (j ∷ js) = max j.deadline (span js)

-- the work of the jobs whose arrival is below t
unfoldable pub ceiling : List Job → ℕ → ℕ
ceiling jobs t = sum_of (λ j. cond (nat_lt j.arrival t) j.work 0) jobs

-- the work of the jobs whose deadline is at most t
unfoldable pub floor : List Job → ℕ → ℕ
floor jobs t = sum_of (λ j. cond (nat_le j.deadline t) j.work 0) jobs

-- whether some job arrives at time t; whether some job is due then
unfoldable pub arrives : List Job → ℕ → Bool
arrives jobs t = some_of (λ j. nat_eq j.arrival t) jobs

unfoldable pub due : List Job → ℕ → Bool
due jobs t = some_of (λ j. nat_eq j.deadline t) jobs

-- a time put into a rising list of times, unless it is there
unfoldable pub insert : ℕ → List ℕ → List ℕ
insert t [] = t ∷ []
insert t (s ∷ ss) = cond (nat_lt t s) (t ∷ (s ∷ ss)) (cond (t == s) (s ∷ ss) (s ∷ insert t ss))

-- the cuts: 0, every arrival and every deadline, rising, each once
unfoldable pub cuts : List Job → List ℕ
cuts [] = 0 ∷ []
cuts (j ∷ js) = insert j.arrival (insert j.deadline (cuts js))
