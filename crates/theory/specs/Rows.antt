-- Worked rows: jobs on a processor, with the plan, the energy, the charges and the prices that they must have.
use Rattle.std.specs.Prelude.{◌≡◌, ℕ, suc, true, false, List, [], ◌∷◌, map}
use Rattle.model.specs.Speed.{wanting, want}
use Rattle.model.specs.Plan.{plan, energy}
use Rattle.model.specs.Path.{path}
use Rattle.model.specs.Charges.{charge, price}
use Rattle.model.specs.declared.job.Job.{Job}
use Rattle.model.specs.declared.point.Point.{Point}
use Rattle.model.specs.declared.segment.Segment.{Segment}
use Rattle.model.specs.declared.step.Step.{Step}

-- what planning comes to: a plan with its energy and what the house and accounts 1 and 2 pay for it,
-- or the number, from 1, of the job for which speed is wanting
pub data Outcome : Type 0 where
  planned : List Segment → ℕ → List ℕ → Outcome
  refused : ℕ → Outcome

unfoldable pub outcome : List Step → List Job → Outcome
outcome steps jobs =
    let p = plan steps jobs in
    elim (want steps jobs) [
      | true ↦ refused (suc (wanting steps jobs))
      | false ↦ planned p (energy steps p) (map (charge steps jobs p) (0 ∷ (1 ∷ (2 ∷ []))))
    ]

-- one row of the table; `prices` are those of the jobs in `held`
pub record Row : Type 0 where
  pub steps : List Step
  pub jobs : List Job
  pub comes_to : Outcome
  pub held : List Job
  pub prices : List ℕ

-- what a row claims
pub record Holds (r : Row) : Type 0 where
  pub comes : outcome r.steps r.jobs ≡ r.comes_to
  pub priced : map (price r.steps r.jobs) r.held ≡ r.prices

-- every row of a table holds
abbrev pub AllHold : List Row → Type 0
AllHold [] = Unit {0}
AllHold (r ∷ rs) = Holds r × AllHold rs

-- short forms for the table
abbrev pub step : ℕ → ℕ → Step
step v w = record { speed = v; power = w }

abbrev pub job : ℕ → ℕ → ℕ → ℕ → Job
job arrival deadline work account = record { arrival = arrival; deadline = deadline; work = work; account = account }

abbrev pub corner : ℕ → ℕ → Point
corner time height = record { time = time; height = height }

-- idle, and one working speed
abbrev pub two_speeds : List Step
two_speeds = step 0 0 ∷ (step 2 4 ∷ [])

-- three working speeds, and power drawn when idle
abbrev pub four_speeds : List Step
four_speeds = step 0 10 ∷ (step 1 12 ∷ (step 2 20 ∷ (step 4 60 ∷ [])))

-- speeds that share no divisor
abbrev pub odd_speeds : List Step
odd_speeds = step 0 0 ∷ (step 7 7 ∷ (step 11 19 ∷ []))

abbrev pub seg : ℕ → ℕ → Segment
seg h n = record { step = h; ticks = n }

-- without jobs there is nothing to run
abbrev pub no_jobs : Row
no_jobs = record {
  steps = four_speeds;
  jobs = [];
  comes_to = planned [] 0 (0 ∷ (0 ∷ (0 ∷ [])));
  held = [];
  prices = [];
}

-- one piece, cut at the first deadline: slow first along the whole piece would miss it
abbrev pub inner_deadline : Row
inner_deadline = record {
  steps = two_speeds;
  jobs = job 0 2 2 1 ∷ (job 0 4 2 2 ∷ []);
  comes_to = planned (seg 0 5040 ∷ (seg 1 5040 ∷ (seg 0 5040 ∷ (seg 1 5040 ∷ [])))) 40320 (0 ∷ (20160 ∷ (20160 ∷ [])));
  held = [];
  prices = [];
}

-- a slope between two speeds takes both; one step alone would cost more
abbrev pub between_speeds : Row
between_speeds = record {
  steps = four_speeds;
  jobs = job 0 2 3 1 ∷ [];
  comes_to = planned (seg 1 5040 ∷ (seg 2 5040 ∷ [])) 161280 (0 ∷ (161280 ∷ (0 ∷ [])));
  held = job 0 2 1 2 ∷ [];
  prices = 40320 ∷ [];
}

-- idle ticks are the house's; a job that counted in the ceiling at its own arrival would start too early
abbrev pub late_arrival : Row
late_arrival = record {
  steps = four_speeds;
  jobs = job 3 4 4 1 ∷ [];
  comes_to = planned (seg 0 15120 ∷ (seg 3 5040 ∷ [])) 453600 (151200 ∷ (302400 ∷ (0 ∷ [])));
  held = [];
  prices = [];
}

-- more work than the top speed can do in the time
abbrev pub too_much_work : Row
too_much_work = record {
  steps = four_speeds;
  jobs = job 3 4 5 1 ∷ [];
  comes_to = refused 1;
  held = [];
  prices = [];
}

-- the slope falls at a deadline, and then lies between idle and the slowest speed
abbrev pub urgent_first : Row
urgent_first = record {
  steps = four_speeds;
  jobs = job 0 1 2 1 ∷ (job 0 3 1 2 ∷ []);
  comes_to = planned (seg 2 5040 ∷ (seg 0 5040 ∷ (seg 1 5040 ∷ []))) 211680 (50400 ∷ (100800 ∷ (60480 ∷ [])));
  held = [];
  prices = [];
}

-- a cut where the height is no whole number of grains
abbrev pub rounded_cut : Row
rounded_cut = record {
  steps = two_speeds;
  jobs = job 0 11 1 1 ∷ (job 1 11 1 2 ∷ []);
  comes_to = planned (seg 0 4582 ∷ (seg 1 458 ∷ (seg 0 45818 ∷ (seg 1 4582 ∷ [])))) 20160 (0 ∷ (10080 ∷ (10080 ∷ [])));
  held = [];
  prices = [];
}

-- a tick that spans two jobs is charged to the one that owns its first grain
abbrev pub shared_tick : Row
shared_tick = record {
  steps = odd_speeds;
  jobs = job 0 1 1 1 ∷ (job 0 1 10 2 ∷ []);
  comes_to = planned (seg 2 5040 ∷ []) 95760 (0 ∷ (8721 ∷ (87039 ∷ [])));
  held = [];
  prices = [];
}

abbrev pub rows : List Row
rows = no_jobs ∷ (inner_deadline ∷ (between_speeds ∷ (late_arrival ∷ (too_much_work ∷ (urgent_first ∷ (rounded_cut ∷ (shared_tick ∷ [])))))))

-- jobs with the corners that their path must have
pub record Bend : Type 0 where
  pub jobs : List Job
  pub corners : List Point

-- two rises, of which only one is a corner
abbrev pub one_rise : Bend
one_rise = record { jobs = job 3 11 4 1 ∷ (job 6 11 5 2 ∷ []); corners = corner 3 0 ∷ (corner 11 9 ∷ []) }

-- the second deadline is no corner once the first is
abbrev pub two_falls : Bend
two_falls = record {
  jobs = job 0 1 10 1 ∷ (job 0 2 1 2 ∷ (job 0 12 29 1 ∷ (job 10 14 1 2 ∷ [])));
  corners = corner 1 10 ∷ (corner 12 40 ∷ (corner 14 41 ∷ []));
}

-- every path of a table has its corners
abbrev pub AllBend : List Bend → Type 0
AllBend [] = Unit {0}
AllBend (b ∷ bs) = (path b.jobs ≡ b.corners) × AllBend bs

abbrev pub bends : List Bend
bends = one_rise ∷ (two_falls ∷ [])
