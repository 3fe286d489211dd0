-- A book of jobs and its seven calls: when each is refused, what it answers, and what the book is after it.
-- A processor stands in a call as its list of steps, and the lent buffer of plan as what it holds.
use Rattle.std.specs.Prelude.{ℕ, ◌+◌, ◌-◌, not, ◌||◌, List, [], ◌∷◌, ◌++◌, length, take, drop, replicate, is_some, Some, None, Option, ◌==◌, nat_lt, slice_index}
use Rattle.model.specs.Sums.{sum_to}
use Rattle.model.specs.Plan.{plan}
use Rattle.model.specs.Charges.{cost, price}
use Rattle.model.specs.declared.job.Job.{Job}
use Rattle.model.specs.declared.segment.Segment.{Segment}
use Rattle.model.specs.declared.step.Step.{Step}
use Rattle.charges.specs.Owing.{settled}
use Rattle.queue.specs.Queues.{push_lines}
use Rattle.planner.specs.Planning.{want_line, plan_lines}
use Rattle.refusal.specs.Refusals.{Told, Line, line, first_of}

-- a book: its number, the standing jobs, the job of the open hold, and the charges of the house (place 0) and of accounts 1 to 64
pub record State : Type 0 where
  pub number : ℕ
  pub jobs : List Job
  pub held : Option Job
  pub charges : List ℕ

-- a call, with what it is given; a slip stands as the number of the book that gave it out
pub data Call : Type 0 where
  enters : Job → Call
  holds : Job → List Step → Call
  takes : ℕ → Call
  releases : ℕ → Call
  strikes : Call
  plans : List Step → List Segment → Call
  closes : List Step → Call

-- an answer: a refusal; a plain yes; the price on a slip; the number of segments and the energy of a plan, with what the buffer then
-- holds; the energy of a close
pub data Answer : Type 0 where
  refused : Told → Answer
  done : Answer
  priced : ℕ → Answer
  planned : ℕ → ℕ → List Segment → Answer
  closed : ℕ → Answer

-- a new book
abbrev pub new : ℕ → State
new n = record { number = n; jobs = []; held = None; charges = replicate 65 0 }

-- all charges together
unfoldable pub charged : State → ℕ
charged s = sum_to 65 (λ a. slice_index s.charges a)

-- the most that all charges together may come to
abbrev pub charge_limit : ℕ
charge_limit = 4000000000000000000

-- jobs with one more at the end
abbrev pub with_job : List Job → Job → List Job
with_job jobs j = jobs ++ (j ∷ [])

-- a hold is open
abbrev pub open_line : State → Line
open_line s = line (is_some s.held) 8 0

-- no hold is open, or the slip is of another book
abbrev pub slip_line : State → ℕ → Line
slip_line s n = line (not (is_some s.held) || not (n == s.number)) 15 0

-- all charges together would pass their limit
abbrev pub limit_line : State → List Step → Line
limit_line s steps = line (nat_lt charge_limit (charged s + cost steps s.jobs)) 19 0

-- with one job more, speed is wanting, or the price is below zero
abbrev pub price_lines : List Step → List Job → Job → List Line
price_lines steps jobs j =
    want_line steps (with_job jobs j) ∷ (line (nat_lt (cost steps (with_job jobs j)) (cost steps jobs)) 17 0 ∷ [])

-- each call's table of refusals
unfoldable pub lines : State → Call → List Line
lines s (enters j) = open_line s ∷ push_lines s.jobs j
lines s (holds j steps) = open_line s ∷ (push_lines s.jobs j ++ price_lines steps s.jobs j)
lines s (takes n) = slip_line s n ∷ []
lines s (releases n) = slip_line s n ∷ []
lines s strikes = open_line s ∷ (line (length s.jobs == 0) 14 0 ∷ [])
lines s (plans steps buffer) = open_line s ∷ plan_lines steps s.jobs (length buffer)
lines s (closes steps) = open_line s ∷ (want_line steps s.jobs ∷ (limit_line s steps ∷ []))

-- a book without an open hold, with these jobs
abbrev pub standing_with : State → List Job → State
standing_with s js = record { number = s.number; jobs = js; held = None; charges = s.charges }

-- a book with an open hold on a job
abbrev pub holding : State → Job → State
holding s j = record { number = s.number; jobs = s.jobs; held = Some j; charges = s.charges }

-- the charges after a close: each account pays its ticks of the plan
unfoldable pub raised : List Step → List Job → List ℕ → List ℕ
raised steps jobs charges = settled steps jobs (plan steps jobs) charges 65

-- the job of the open hold put last, where there is one
abbrev pub joined_by : List Job → Option Job → List Job
joined_by jobs None = jobs
joined_by jobs (Some j) = with_job jobs j

-- what an accepted call answers
unfoldable pub accepts : State → Call → Answer
accepts s (enters j) = done
accepts s (holds j steps) = priced (price steps s.jobs j)
accepts s (takes n) = done
accepts s (releases n) = done
accepts s strikes = done
accepts s (plans steps buffer) =
    planned (length (plan steps s.jobs)) (cost steps s.jobs) (plan steps s.jobs ++ drop (length (plan steps s.jobs)) buffer)
accepts s (closes steps) = closed (cost steps s.jobs)

-- what the book is after an accepted call
unfoldable pub becomes : State → Call → State
becomes s (enters j) = standing_with s (with_job s.jobs j)
becomes s (holds j steps) = holding s j
becomes s (takes n) = standing_with s (joined_by s.jobs s.held)
becomes s (releases n) = standing_with s s.jobs
becomes s strikes = standing_with s (take (length s.jobs - 1) s.jobs)
becomes s (plans steps buffer) = s
becomes s (closes steps) = record { number = s.number; jobs = []; held = None; charges = raised steps s.jobs s.charges }

-- the answer to a call: the first refusal of its table, else what an accepted call answers
unfoldable pub answer : State → Call → Answer
answer s c = by (first_of (lines s c))
  where
    by : Option Told → Answer
    by (Some t) = refused t
    by None = accepts s c

-- the book after a call: unchanged where it was refused
unfoldable pub after : State → Call → State
after s c = by (first_of (lines s c))
  where
    by : Option Told → State
    by (Some t) = s
    by None = becomes s c

-- the book after a list of calls
unfoldable pub run_from : State → List Call → State
run_from s [] = s
run_from s (c ∷ cs) = run_from (after s c) cs

unfoldable pub run : ℕ → List Call → State
run n calls = run_from (new n) calls
