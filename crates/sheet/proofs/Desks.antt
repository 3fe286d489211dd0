-- The book of a sheet: what its answers to enter and plan say of its tables.
use Rattle.std.proofs.Common.{◌≡◌, ℕ, false, ◌⊎◌, List, [], ◌∷◌, ◌++◌, length, drop, Some, None, Option, sym, ap, ◌∙◌, inl, inr, arith}
use Rattle.model.specs.Charges.{cost}
use Rattle.model.specs.Plan.{plan}
use Rattle.model.specs.Speed.{want}
use Rattle.model.specs.declared.job.Job.{Job}
use Rattle.model.specs.declared.segment.Segment.{Segment}
use Rattle.model.specs.declared.step.Step.{Step}
use Rattle.planner.specs.Planning.{want_line, room_line, plan_lines}
use Rattle.refusal.proofs.Lines.{none_or_some}
use Rattle.refusal.specs.Refusals.{Told, Line, told_of, first_of}
use Rattle.refusal.specs.declared.refusal.Refusal.{Refusal}
use Rattle.book.proofs.Keeping.{clear_first}
use Rattle.book.proofs.Steps.{answer_refused, answer_accepted, after_accepted}
use Rattle.book.proofs.Promises.{hit_front, pass_longer}
use Rattle.book.specs.Calls.{State, Call, Answer, answer, after, accepts, becomes, lines, open_line}
use Rattle.book.specs.Calls.Answer.{refused, done, planned}
use Rattle.book.specs.Calls.Call.{enters, plans}
use Rattle.sheet.specs.Sheets.{desk}

-- an answer that is a refusal comes from the call's table, and another one says that the table gives none
refusal_told : (s : State) (c : Call) (t : Told) → ((u : Told) → accepts s c ≡ refused u → ⊥) → refused t ≡ answer s c → Some t ≡ first_of (lines s c)
refusal_told s c t n e = by (none_or_some (first_of (lines s c)))
  where
    by : (first_of (lines s c) ≡ None) ⊎ ((u : Told) × (first_of (lines s c) ≡ Some u)) → Some t ≡ first_of (lines s c)
    by (inl z) = absurd (n t (sym (e ∙ answer_accepted s c z)))
    by (inr u) =
        let a : refused t ≡ refused u.0 = e ∙ answer_refused s c u.0 u.1 in
        let b : t ≡ u.0 = cc in
        ap (λ (x : Told). Some x) b ∙ sym u.1

acceptance_told : (s : State) (c : Call) (a : Answer) → ((u : Told) → a ≡ refused u → ⊥) → a ≡ answer s c → first_of (lines s c) ≡ None
acceptance_told s c a n e = by (none_or_some (first_of (lines s c)))
  where
    by : (first_of (lines s c) ≡ None) ⊎ ((u : Told) × (first_of (lines s c) ≡ Some u)) → first_of (lines s c) ≡ None
    by (inl z) = z
    by (inr u) = absurd (n u.0 (e ∙ answer_refused s c u.0 u.1))

done_fine : (u : Told) → done ≡ refused u → ⊥
done_fine u e = let z : ◌≡◌ {A = ℕ} 0 1 = cc in omega arith

planned_fine : (n e : ℕ) (xs : List Segment) (u : Told) → planned n e xs ≡ refused u → ⊥
planned_fine n e xs u q = let z : ◌≡◌ {A = ℕ} 0 1 = cc in omega arith

enter_fine : (s : State) (j : Job) (u : Told) → accepts s (enters j) ≡ refused u → ⊥
unfolding accepts
enter_fine s j u e = done_fine u e

plan_fine : (s : State) (steps : List Step) (buffer : List Segment) (u : Told) → accepts s (plans steps buffer) ≡ refused u → ⊥
unfolding accepts
plan_fine s steps buffer u e = planned_fine _ _ _ u e

-- entering tells what the book's table says
pub enter_refused : (s : State) (j : Job) (e : Refusal) → refused (told_of e) ≡ answer s (enters j) → Some (told_of e) ≡ first_of (lines s (enters j))
enter_refused s j e q = refusal_told s (enters j) (told_of e) (enter_fine s j) q

pub enter_done : (s : State) (j : Job) → done ≡ answer s (enters j) → first_of (lines s (enters j)) ≡ None
enter_done s j q = acceptance_told s (enters j) done done_fine q

-- and the book then has the job
pub entered : (jobs : List Job) (j : Job) (t : State) → first_of (lines (desk jobs) (enters j)) ≡ None → t ≡ after (desk jobs) (enters j) → t ≡ desk (jobs ++ (j ∷ []))
unfolding becomes
entered jobs j t n e = e ∙ after_accepted (desk jobs) (enters j) n

-- planning tells what the book's table says
pub plan_refused : (s : State) (steps : List Step) (buffer : List Segment) (e : Refusal) → refused (told_of e) ≡ answer s (plans steps buffer) → Some (told_of e) ≡ first_of (lines s (plans steps buffer))
plan_refused s steps buffer e q = refusal_told s (plans steps buffer) (told_of e) (plan_fine s steps buffer) q

pub plan_done : (s : State) (steps : List Step) (buffer xs : List Segment) (n e : ℕ) → planned n e xs ≡ answer s (plans steps buffer) → first_of (lines s (plans steps buffer)) ≡ None
plan_done s steps buffer xs n e q = acceptance_told s (plans steps buffer) (planned n e xs) (planned_fine n e xs) q

-- and the answer is the plan
pub record DrawnOn (steps : List Step) (jobs : List Job) (buffer xs : List Segment) (n e : ℕ) : Type 0 where
  pub able : want steps jobs ≡ false
  pub count : n ≡ length (plan steps jobs)
  pub energy : e ≡ cost steps jobs
  pub after : xs ≡ plan steps jobs ++ drop (length (plan steps jobs)) buffer

pub drawn_on : (steps : List Step) (jobs : List Job) (buffer xs : List Segment) (n e : ℕ) → planned n e xs ≡ answer (desk jobs) (plans steps buffer) → DrawnOn steps jobs buffer xs n e
unfolding accepts lines
drawn_on steps jobs buffer xs n e q =
    let z = plan_done (desk jobs) steps buffer xs n e q in
    let a : planned n e xs ≡ planned (length (plan steps jobs)) (cost steps jobs) (plan steps jobs ++ drop (length (plan steps jobs)) buffer) = q ∙ answer_accepted (desk jobs) (plans steps buffer) z in
    record {
      able = (clear_first (want_line steps jobs) (room_line steps jobs (length buffer) ∷ []) z).0;
      count = cc;
      energy = cc;
      after = cc;
    }

-- the buffer's length is all that counts in the table
pub plan_room : (s : State) (steps : List Step) (a b : List Segment) → length a ≡ length b → lines s (plans steps a) ≡ lines s (plans steps b)
unfolding lines
plan_room s steps a b e = ap (λ (n : ℕ). open_line s ∷ plan_lines steps s.jobs n) e

-- refusals of the ladder come first, and then those of the book
pub ladder_first : (ls ms : List Line) (t : Told) → Some t ≡ first_of ls → Some t ≡ first_of (ls ++ ms)
ladder_first ls ms t e = sym (hit_front ls ms t (sym e))

pub book_next : (ls ms : List Line) (o : Option Told) → first_of ls ≡ None → o ≡ first_of ms → o ≡ first_of (ls ++ ms)
book_next ls ms o n e = e ∙ sym (pass_longer ls ms n)
