-- Enter, strike, plan, take and release, by their outcomes.
use Rattle.std.proofs.Common.{◌≡◌, ℕ, ◌-◌, true, false, cond, eqb, List, [], ◌∷◌, ◌++◌, length, take, drop, is_some, is_ok, IfOk, Some, None, Ok, Err, Option, Result, sym, refl, ap, ◌∙◌, subst}
use Rattle.std.proofs.lemmas.Bool.{or_from, not_from_true, eq-eqb, ne_eqb}
use Rattle.model.specs.Steps.{Lawful}
use Rattle.model.specs.Plan.{plan}
use Rattle.model.specs.Charges.{cost}
use Rattle.model.specs.declared.job.Job.{Job}
use Rattle.model.specs.declared.segment.Segment.{Segment}
use Rattle.model.specs.declared.step.Step.{Step as Level}
use Rattle.planner.specs.Planning.{plan_lines}
use Rattle.planner.specs.declared.plan.Planned.{Planned}
use Rattle.queue.specs.Queues.{push_lines}
use Rattle.refusal.specs.Refusals.{told, told_of, outcome, line, first_of}
use Rattle.refusal.specs.declared.refusal.Refusal.{Refusal}
use Rattle.refusal.proofs.Lines.{first_hit, first_pass}
use Rattle.book.specs.Calls.{State, open_line, slip_line, joined_by, standing_with, lines, accepts, becomes}
use Rattle.book.specs.Calls.Call.{enters, takes, releases, strikes, plans}
use Rattle.book.specs.Calls.Answer.{refused, done, planned}
use Rattle.book.specs.Books.{said, said_plan}
use Rattle.book.specs.Spending.{Spends}
use Rattle.book.proofs.Promises.{Step, step_at, refused_step, accepted_step, not_held}

-- a book with these jobs
abbrev pub changed : State → List Job → State
changed s js = record { number = s.number; jobs = js; held = s.held; charges = s.charges }

let_go : (s : State) (js : List Job) → is_some s.held ≡ false → changed s js ≡ standing_with s js
let_go s js h = ap (λ (o : Option Job). record { number = s.number; jobs = js; held = o; charges = s.charges }) (not_held s.held h)

-- an open hold stops enter
pub enter_open : (s : State) (j : Job) → is_some s.held ≡ true → Step s s (enters j) (refused (told 8 0))
unfolding lines
enter_open s j h = refused_step s (enters j) (told 8 0) tt (first_hit (open_line s) (push_lines s.jobs j) h)

pub enter_put :
    (s : State) (j : Job) (r : Result (Unit {0}) Refusal) (js : List Job) → is_some s.held ≡ false → outcome r ≡ first_of (push_lines s.jobs j)
    → js ≡ cond (is_ok r) (s.jobs ++ (j ∷ [])) s.jobs → Step s (changed s js) (enters j) (said r)
unfolding lines becomes accepts
enter_put s j (Ok x) js h e f =
    accepted_step s (changed s js) (enters j) done tt (first_pass (open_line s) (push_lines s.jobs j) h ∙ sym e)
    (let_go s js h ∙ ap (λ (w : List Job). standing_with s w) f) refl
enter_put s j (Err w) js h e f =
    subst (λ (x : List Job). Step s (changed s x) (enters j) (refused (told_of w))) (sym f)
    (refused_step s (enters j) (told_of w) tt (first_pass (open_line s) (push_lines s.jobs j) h ∙ sym e))

-- strike
pub strike_open : (s : State) → is_some s.held ≡ true → Step s s strikes (refused (told 8 0))
unfolding lines
strike_open s h = refused_step s strikes (told 8 0) tt (first_hit (open_line s) (line (eqb (length s.jobs) 0) 14 0 ∷ []) h)

pub strike_bare : (s : State) → is_some s.held ≡ false → length s.jobs ≡ 0 → Step s s strikes (refused (told 14 0))
unfolding lines
strike_bare s h e =
    refused_step s strikes (told 14 0) tt
    (first_pass (open_line s) (line (eqb (length s.jobs) 0) 14 0 ∷ []) h ∙ first_hit (line (eqb (length s.jobs) 0) 14 0) [] (eq-eqb _ _ e))

pub strike_last : (s : State) (js : List Job) → is_some s.held ≡ false → (length s.jobs ≡ 0 → ⊥) → js ≡ take (length s.jobs - 1) s.jobs → Step s (changed s js) strikes done
unfolding lines becomes accepts
strike_last s js h e f =
    accepted_step s (changed s js) strikes done tt
    (first_pass (open_line s) (line (eqb (length s.jobs) 0) 14 0 ∷ []) h ∙ first_pass (line (eqb (length s.jobs) 0) 14 0) [] (ne_eqb _ _ e))
    (let_go s js h ∙ ap (λ (w : List Job). standing_with s w) f) refl

-- plan
pub plan_open : (s : State) (steps : List Level) (buffer : List Segment) → Lawful steps → is_some s.held ≡ true → Step s s (plans steps buffer) (refused (told 8 0))
unfolding lines
plan_open s steps buffer k h = refused_step s (plans steps buffer) (told 8 0) k (first_hit (open_line s) (plan_lines steps s.jobs (length buffer)) h)

pub plan_made :
    (s : State) (steps : List Level) (buffer filled : List Segment) (r : Result Planned Refusal) → Lawful steps → is_some s.held ≡ false
    → outcome r ≡ first_of (plan_lines steps s.jobs (length buffer))
    → IfOk r (λ a. (a.segments ≡ length (plan steps s.jobs)) × (a.energy ≡ cost steps s.jobs))
    → filled ≡ cond (is_ok r) (plan steps s.jobs ++ drop (length (plan steps s.jobs)) buffer) buffer
    → Step s s (plans steps buffer) (said_plan filled r)
unfolding lines becomes accepts
plan_made s steps buffer filled (Ok p) k h e f g =
    accepted_step s s (plans steps buffer) (planned p.segments p.energy filled) k (first_pass (open_line s) (plan_lines steps s.jobs (length buffer)) h ∙ sym e) refl
    (ap (λ (n : ℕ). planned n p.energy filled) f.0
    ∙ (ap (λ (n : ℕ). planned (length (plan steps s.jobs)) n filled) f.1
    ∙ ap (λ (w : List Segment). planned (length (plan steps s.jobs)) (cost steps s.jobs) w) g))
plan_made s steps buffer filled (Err w) k h e f g =
    refused_step s (plans steps buffer) (told_of w) k (first_pass (open_line s) (plan_lines steps s.jobs (length buffer)) h ∙ sym e)

pub take_stopped : (s t : State) (n : ℕ) → t ≡ s → first_of (slip_line s n ∷ []) ≡ Some (told 15 0) → Step s t (takes n) (refused (told 15 0))
unfolding lines
take_stopped s t n e f = step_at s s t (takes n) _ _ e refl (refused_step s (takes n) (told 15 0) tt f)

pub release_stopped : (s t : State) (n : ℕ) → t ≡ s → first_of (slip_line s n ∷ []) ≡ Some (told 15 0) → Step s t (releases n) (refused (told 15 0))
unfolding lines
release_stopped s t n e f = step_at s s t (releases n) _ _ e refl (refused_step s (releases n) (told 15 0) tt f)

-- and one that can be spent
spendable : (s : State) (n : ℕ) → is_some s.held ≡ true → n ≡ s.number → first_of (slip_line s n ∷ []) ≡ None
spendable s n h e = first_pass (slip_line s n) [] (or_from _ _ (not_from_true _ h) (not_from_true _ (eq-eqb _ _ e)))

-- the hold is closed, and its job put last or let go
pub take_spent : (s t : State) (js : List Job) (n : ℕ) (j : Job) → Spends s n j t → js ≡ t.jobs ++ (j ∷ []) → Step s (changed t js) (takes n) done
unfolding lines becomes accepts
take_spent s t js n j p f =
    let h = ap (λ (o : Option Job). is_some o) p.held in
    accepted_step s (changed t js) (takes n) done tt (spendable s n h p.own)
    (ap (λ (x : State). changed x js) p.closed
    ∙ ap (λ (w : List Job). standing_with s w) (f ∙ (ap (λ (x : State). x.jobs ++ (j ∷ [])) p.closed ∙ ap (λ (o : Option Job). joined_by s.jobs o) (sym p.held)))) refl

pub release_spent : (s t : State) (n : ℕ) (j : Job) → Spends s n j t → Step s t (releases n) done
unfolding lines becomes accepts
release_spent s t n j p =
    accepted_step s t (releases n) done tt (spendable s n (ap (λ (o : Option Job). is_some o) p.held) p.own) p.closed refl
