-- Who pays for a plan, tick by tick, and what one job more would cost.
use Rattle.std.specs.Prelude.{ℕ, zero, suc, ◌+◌, ◌-◌, ◌*◌, cond, List, [], ◌∷◌, ◌++◌, ◌==◌, nat_lt}
use Rattle.model.specs.Steps.{unit, speed_at, power_at}
use Rattle.model.specs.Plan.{plan, energy}
use Rattle.model.specs.declared.job.Job.{Job}
use Rattle.model.specs.declared.segment.Segment.{Segment}
use Rattle.model.specs.declared.step.Step.{Step}

-- the account that stands for the house
abbrev pub house : ℕ
house = 0

-- the account of the job that owns grain g, in book order
unfoldable pub owner : List Job → ℕ → ℕ
owner [] g = house
owner (j ∷ js) g = cond (nat_lt g (j.work * unit)) j.account (owner js (g - j.work * unit))

-- who pays for a tick of speed v whose first grain is g: the house where nothing is done
unfoldable pub payer : List Job → ℕ → ℕ → ℕ
payer jobs v g = cond (v == 0) house (owner jobs g)

-- what account a pays for n ticks of speed v and power w, of which the first begins with grain g
unfoldable pub pays : List Job → ℕ → ℕ → ℕ → ℕ → ℕ → ℕ
pays jobs a v w g zero = 0
pays jobs a v w g (suc n) = cond (payer jobs v g == a) w 0 + pays jobs a v w (g + v) n

-- what account a pays for the segments of a plan, of which the first begins with grain g
unfoldable pub charge_from : List Step → List Job → ℕ → ℕ → List Segment → ℕ
charge_from steps jobs a g [] = 0
charge_from steps jobs a g (s ∷ ss) =
    pays jobs a (speed_at steps s.step) (power_at steps s.step) g s.ticks
    + charge_from steps jobs a (g + speed_at steps s.step * s.ticks) ss

-- what account a pays for a plan
unfoldable pub charge : List Step → List Job → List Segment → ℕ → ℕ
charge steps jobs segments a = charge_from steps jobs a 0 segments

-- the energy of the jobs' plan, and what it rises by with one job more at the end
unfoldable pub cost : List Step → List Job → ℕ
cost steps jobs = energy steps (plan steps jobs)

unfoldable pub price : List Step → List Job → Job → ℕ
price steps jobs job = cost steps (jobs ++ (job ∷ [])) - cost steps jobs
