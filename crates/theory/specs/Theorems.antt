-- The theorems over the model, each as a statement that a function's contract names.
use Rattle.std.specs.Prelude.{◌≡◌, ℕ, ◌<◌, ◌≤◌, true, false, List, length}
use Rattle.model.specs.Sums.{sum_to}
use Rattle.model.specs.Steps.{Lawful}
use Rattle.model.specs.Jobs.{Ordered, job_at, span}
use Rattle.model.specs.Path.{keeps, path, SameHeight}
use Rattle.model.specs.Plan.{plan, energy}
use Rattle.model.specs.Ways.{Serves, Least, Runnable}
use Rattle.model.specs.Speed.{want}
use Rattle.model.specs.Charges.{charge, cost}
use Rattle.model.specs.declared.job.Job.{Job}
use Rattle.model.specs.declared.point.Point.{Point}
use Rattle.model.specs.declared.segment.Segment.{Segment}
use Rattle.model.specs.declared.step.Step.{Step}

-- every list of jobs in book order has a path
abbrev pub PathExists : Type 0
PathExists = (jobs : List Job) → Ordered jobs → keeps jobs (path jobs) ≡ true

-- any two paths of the same jobs have the same height at every whole time
abbrev pub PathIsOne : Type 0
PathIsOne = (jobs : List Job) (c d : List Point) → keeps jobs c ≡ true → keeps jobs d ≡ true → (t : ℕ) → t ≤ span jobs → SameHeight c d t

-- without want of speed the plan serves exactly the jobs
abbrev pub PlanServes : Type 0
PlanServes = (steps : List Step) (jobs : List Job) → Lawful steps → Ordered jobs → want steps jobs ≡ false → Serves steps jobs (plan steps jobs)

-- without want of speed the plan's energy is the least: every way, for its own k, has at least k times it
abbrev pub PlanIsLeast : Type 0
PlanIsLeast = (steps : List Step) (jobs : List Job) → Lawful steps → Ordered jobs → want steps jobs ≡ false → Least steps jobs (cost steps jobs)

-- speed is wanting exactly when no way of running the jobs exists
pub record EitherWay (steps : List Step) (jobs : List Job) : Type 0 where
  pub none : want steps jobs ≡ true → Runnable steps jobs → ⊥
  pub some : want steps jobs ≡ false → Runnable steps jobs

abbrev pub WantIsNoWay : Type 0
WantIsNoWay = (steps : List Step) (jobs : List Job) → Lawful steps → Ordered jobs → EitherWay steps jobs

-- what the house and the accounts pay for a plan is its energy
abbrev pub ChargesAddUp : Type 0
ChargesAddUp =
    (steps : List Step) (jobs : List Job) (segments : List Segment) → ((i : ℕ) → i < length jobs → (job_at jobs i).account ≤ 64)
    → sum_to 65 (charge steps jobs segments) ≡ energy steps segments
