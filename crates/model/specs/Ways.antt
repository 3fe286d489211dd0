-- Every way of running the jobs, when a plan serves them, and the least energy.
use Rattle.std.specs.Prelude.{◌≡◌, ℕ, suc, ◌-◌, ◌*◌, ◌<◌, ◌≤◌, min, cond, List, [], ◌∷◌, length, nat_lt}
use Rattle.model.specs.Sums.{sum_to}
use Rattle.model.specs.Steps.{unit, speed_at, power_at}
use Rattle.model.specs.Jobs.{job_at, total, span}
use Rattle.model.specs.Plan.{ticks_of}
use Rattle.model.specs.declared.job.Job.{Job}
use Rattle.model.specs.declared.segment.Segment.{Segment}
use Rattle.model.specs.declared.step.Step.{Step}

-- how many parts the span has where each tick is cut into k parts
unfoldable pub parts : List Job → ℕ → ℕ
parts jobs k = span jobs * unit * k

-- a way of running the jobs: each tick is cut into k equal parts and each grain into k fine grains;
-- `pick` names the step of a part, and `give` the fine grains that a job gets in it
pub record Way (steps : List Step) (jobs : List Job) (k : ℕ) (pick : ℕ → ℕ) (give : ℕ → ℕ → ℕ) : Type 0 where
  pub fine : 0 < k
  -- each part runs at a step of the processor
  pub known : (p : ℕ) → p < parts jobs k → pick p < length steps
  -- a part's fine grains are together at most its step's speed
  pub able : (p : ℕ) → p < parts jobs k → sum_to (length jobs) (λ i. give i p) ≤ speed_at steps (pick p)
  -- a job gets none before its arrival, and none after its deadline
  pub early : (i p : ℕ) → i < length jobs → p < parts jobs k → p < (job_at jobs i).arrival * unit * k → give i p ≡ 0
  pub late : (i p : ℕ) → i < length jobs → p < parts jobs k → (job_at jobs i).deadline * unit * k ≤ p → give i p ≡ 0
  -- over the span each job gets exactly its work
  pub whole : (i : ℕ) → i < length jobs → sum_to (parts jobs k) (give i) ≡ (job_at jobs i).work * unit * k

-- the energy of a way, in power × parts, to be compared with k × the energy of a plan
unfoldable pub way_energy : List Step → List Job → ℕ → (ℕ → ℕ) → ℕ
way_energy steps jobs k pick = sum_to (parts jobs k) (λ p. power_at steps (pick p))

-- the step of tick n of a plan
unfoldable pub step_of : List Segment → ℕ → ℕ
step_of [] n = 0
step_of (s ∷ ss) n = cond (nat_lt n s.ticks) s.step (step_of ss (n - s.ticks))

-- the grains that a plan has done before tick n
unfoldable pub grains : List Step → List Segment → ℕ → ℕ
grains steps segments n = sum_to n (λ m. speed_at steps (step_of segments m))

-- the grains of all jobs before job i in the book
unfoldable pub before : List Job → ℕ → ℕ
before jobs i = sum_to i (λ m. (job_at jobs m).work * unit)

-- of the first g grains, those that go to job i: what the jobs before it leave, up to its work
unfoldable pub portion : List Job → ℕ → ℕ → ℕ
portion jobs i g = min (g - before jobs i) ((job_at jobs i).work * unit)

-- what job i gets in tick n of a plan
unfoldable pub share : List Step → List Job → List Segment → ℕ → ℕ → ℕ
share steps jobs segments i n = portion jobs i (grains steps segments (suc n)) - portion jobs i (grains steps segments n)

-- a plan serves jobs: its ticks fill the span, no grain is left over, and it is a way with k = 1
pub record Serves (steps : List Step) (jobs : List Job) (segments : List Segment) : Type 0 where
  pub fills : ticks_of segments ≡ span jobs * unit
  pub spends : grains steps segments (span jobs * unit) ≡ total jobs * unit
  pub way : Way steps jobs 1 (step_of segments) (share steps jobs segments)

-- no way of running the jobs, on ticks cut into any number of parts, has less than k times this energy
abbrev pub Unbeaten : List Step → List Job → ℕ → Type 0
Unbeaten steps jobs e = (k : ℕ) (pick : ℕ → ℕ) (give : ℕ → ℕ → ℕ) → Way steps jobs k pick give → k * e ≤ way_energy steps jobs k pick

-- e is the least energy of the jobs: some way with k = 1 has it, and none has less
pub record Least (steps : List Step) (jobs : List Job) (e : ℕ) : Type 0 where
  pub pick : ℕ → ℕ
  pub give : ℕ → ℕ → ℕ
  pub way : Way steps jobs 1 pick give
  pub reached : way_energy steps jobs 1 pick ≡ e
  pub unbeaten : Unbeaten steps jobs e

-- some way of running the jobs exists, on ticks cut into some number of parts
pub record Runnable (steps : List Step) (jobs : List Job) : Type 0 where
  pub k : ℕ
  pub pick : ℕ → ℕ
  pub give : ℕ → ℕ → ℕ
  pub way : Way steps jobs k pick give
