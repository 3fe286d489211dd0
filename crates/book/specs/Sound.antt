-- What holds of every list of calls on a new book.
use Rattle.std.specs.Prelude.{◌≡◌, ℕ, ◌+◌, List, [], ◌∷◌, ◌++◌, length, drop, None}
use Rattle.model.specs.Steps.{Lawful}
use Rattle.model.specs.Plan.{plan, energy}
use Rattle.model.specs.Ways.{Serves, Least, Runnable, Unbeaten}
use Rattle.model.specs.declared.segment.Segment.{Segment}
use Rattle.model.specs.declared.step.Step.{Step}
use Rattle.book.specs.Calls.{State, Call, Answer, new, charged, answer, after, run}
use Rattle.book.specs.Calls.Call.{enters, holds, takes, releases, strikes, plans, closes}
use Rattle.book.specs.Calls.Answer.{refused, done, priced, planned, closed}

-- the steps of a call's processor keep the five rules
abbrev pub LawfulCall : Call → Type 0
LawfulCall (enters j) = Unit {0}
LawfulCall (holds j steps) = Lawful steps
LawfulCall (takes n) = Unit {0}
LawfulCall (releases n) = Unit {0}
LawfulCall strikes = Unit {0}
LawfulCall (plans steps buffer) = Lawful steps
LawfulCall (closes steps) = Lawful steps

abbrev pub AllLawful : List Call → Type 0
AllLawful [] = Unit {0}
AllLawful (c ∷ cs) = LawfulCall c × AllLawful cs

-- an accepted plan writes the defined segments, which serve exactly the standing jobs, answers their number and energy, and every way of
-- running those jobs, on ticks cut into any number of parts, has at least that energy
pub record GoodPlan (s : State) (steps : List Step) (buffer : List Segment) (n e : ℕ) (filled : List Segment) : Type 0 where
  pub count : n ≡ length (plan steps s.jobs)
  pub filled_is : filled ≡ plan steps s.jobs ++ drop n buffer
  pub energy_is : e ≡ energy steps (plan steps s.jobs)
  pub serves : Serves steps s.jobs (plan steps s.jobs)
  pub unbeaten : Unbeaten steps s.jobs e

abbrev pub PlanGood : State → List Step → List Segment → Answer → Type 0
PlanGood s steps buffer (refused t) = Unit {0}
PlanGood s steps buffer done = ⊥
PlanGood s steps buffer (priced p) = ⊥
PlanGood s steps buffer (planned n e filled) = GoodPlan s steps buffer n e filled
PlanGood s steps buffer (closed e) = ⊥

-- plan is refused for want of speed exactly when no hold is open and no way of running the standing jobs exists
abbrev pub RefusedForWant : Answer → Type 0
RefusedForWant (refused t) = t.number ≡ 16
RefusedForWant done = ⊥
RefusedForWant (priced p) = ⊥
RefusedForWant (planned n e filled) = ⊥
RefusedForWant (closed e) = ⊥

pub record WantExact (s : State) (steps : List Step) (a : Answer) : Type 0 where
  pub only : RefusedForWant a → (s.held ≡ None) × (Runnable steps s.jobs → ⊥)
  pub always : s.held ≡ None → (Runnable steps s.jobs → ⊥) → RefusedForWant a

-- an accepted close answers the least energy of the jobs that it removes
abbrev pub CloseLeast : State → List Step → Answer → Type 0
CloseLeast s steps (refused t) = Unit {0}
CloseLeast s steps done = ⊥
CloseLeast s steps (priced p) = ⊥
CloseLeast s steps (planned n e filled) = ⊥
CloseLeast s steps (closed e) = Least steps s.jobs e

-- what holds of one call in a state
abbrev pub Good : State → Call → Type 0
Good s (enters j) = Unit {0}
Good s (holds j steps) = Unit {0}
Good s (takes n) = Unit {0}
Good s (releases n) = Unit {0}
Good s strikes = Unit {0}
Good s (plans steps buffer) = PlanGood s steps buffer (answer s (plans steps buffer)) × WantExact s steps (answer s (plans steps buffer))
Good s (closes steps) = CloseLeast s steps (answer s (closes steps))

-- and of every call of a list
abbrev pub AllGood : State → List Call → Type 0
AllGood s [] = Unit {0}
AllGood s (c ∷ cs) = Good s c × AllGood (after s c) cs

-- the energy that an answer closes with
abbrev pub energy_closed : Answer → ℕ
energy_closed (refused t) = 0
energy_closed done = 0
energy_closed (priced p) = 0
energy_closed (planned n e filled) = 0
energy_closed (closed e) = e

-- the sum over the accepted closes of a list of the energies that they answer
unfoldable pub closed_energy : State → List Call → ℕ
closed_energy s [] = 0
closed_energy s (c ∷ cs) = energy_closed (answer s c) + closed_energy (after s c) cs

-- the whole claim for one list of calls on a new book: every plan is least, want of speed is exact, every close answers a least energy,
-- and all charges add up to the energies of the accepted closes
pub record Sound (number : ℕ) (calls : List Call) : Type 0 where
  pub good : AllGood (new number) calls
  pub sums : charged (run number calls) ≡ closed_energy (new number) calls
