-- Planning a queue of jobs: when it is refused, and what an accepted plan is worth.
use Rattle.std.specs.Prelude.{◌≡◌, ℕ, suc, true, false, List, [], ◌∷◌, length, nat_lt}
use Rattle.model.specs.Plan.{plan}
use Rattle.model.specs.Speed.{want, wanting}
use Rattle.model.specs.Ways.{Serves, Least, Runnable}
use Rattle.model.specs.Charges.{cost}
use Rattle.model.specs.declared.job.Job.{Job}
use Rattle.model.specs.declared.step.Step.{Step}
use Rattle.refusal.specs.Refusals.{Line, line}

-- the refusal for want of speed, which names the job, counted from 1
abbrev pub want_line : List Step → List Job → Line
want_line steps jobs = line (want steps jobs) 16 (suc (wanting steps jobs))

-- the refusal for a buffer of `room` segments
abbrev pub room_line : List Step → List Job → ℕ → Line
room_line steps jobs room = line (nat_lt room (length (plan steps jobs))) 18 (length (plan steps jobs))

abbrev pub plan_lines : List Step → List Job → ℕ → List Line
plan_lines steps jobs room = want_line steps jobs ∷ (room_line steps jobs room ∷ [])

-- what is true of the plan of jobs: without want of speed it serves exactly them, and no way of running them, on ticks cut into
-- any number of parts, costs less; speed is wanting exactly when there is no way
pub record Worth (steps : List Step) (jobs : List Job) : Type 0 where
  pub serves : want steps jobs ≡ false → Serves steps jobs (plan steps jobs)
  pub least : want steps jobs ≡ false → Least steps jobs (cost steps jobs)
  pub no_way : want steps jobs ≡ true → Runnable steps jobs → ⊥
  pub some_way : want steps jobs ≡ false → Runnable steps jobs
