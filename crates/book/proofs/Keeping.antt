-- What every book keeps: its jobs stand, there are at most 256, and the job of an open hold may be put last.
use Rattle.std.proofs.Common.{◌≡◌, ℕ, ◌-◌, ◌≤◌, true, false, List, [], ◌∷◌, ◌++◌, length, is_some, Some, None, Option, sym, refl, ap, ◌∙◌, subst, inl, inr, arith}
use Rattle.std.proofs.lemmas.List.{length_push, length-take}
use Rattle.std.proofs.lemmas.Bool.{cases_Bool, true≢false}
use Rattle.model.specs.declared.job.Job.{Job}
use Rattle.refusal.specs.Refusals.{Told, told, Line, first_of}
use Rattle.refusal.proofs.Lines.{first_hit, first_pass, none_or_some}
use Rattle.queue.specs.Queues.{push_lines, standing}
use Rattle.queue.proofs.Order.{standing_none, standing_take}
use Rattle.queue.proofs.Admitted.{Admitted, admitted}
use Rattle.queue.proofs.Admitted as queued
use Rattle.book.specs.Calls.{State, Call, open_line, price_lines, with_job, joined_by, lines, becomes, after, new}
use Rattle.book.specs.Calls.Call.{enters, holds, takes, releases, strikes, plans, closes}
use Rattle.book.proofs.Steps.{after_refused, after_accepted}

pub record Kept (s : State) : Type 0 where
  pub stands : standing s.jobs ≡ true
  pub few : length s.jobs ≤ 256
  pub waits : (j : Job) → s.held ≡ Some j → Admitted s.jobs j

pub some_none : (t : Told) → Some t ≡ None → ⊥
some_none t e = true≢false (ap (λ (o : Option Told). is_some o) e)

none_some : (j : Job) → None ≡ Some j → ⊥
none_some j e = true≢false (sym (ap (λ (o : Option Job). is_some o) e))

-- a table that gives none passes over its first line
pub clear_first : (l : Line) (ls : List Line) → first_of (l ∷ ls) ≡ None → (l.holds ≡ false) × (first_of ls ≡ None)
clear_first l ls e =
    elim (cases_Bool l.holds) [
      | inl h ↦ absurd (some_none (told l.number l.detail) (sym (first_hit l ls h) ∙ e))
      | inr h ↦ (h, sym (first_pass l ls h) ∙ e)
    ]

-- and so does each of its parts
pub clear_front : (ls ms : List Line) → first_of (ls ++ ms) ≡ None → (first_of ls ≡ None) × (first_of ms ≡ None)
clear_front [] ms e = (refl, e)
clear_front (l ∷ ls) ms e =
    let (h, r) = clear_first l (ls ++ ms) e in
    let (a, b) = clear_front ls ms r in
    (first_pass l ls h ∙ a, b)

kept_with : (jobs : List Job) (j : Job) → standing jobs ≡ true → Admitted jobs j → (standing (with_job jobs j) ≡ true) × (length (with_job jobs j) ≤ 256)
kept_with jobs j e a = (queued.standing_with jobs j e a, let n = length_push jobs j in let r = a.room in omega arith)

some_same : (i j : Job) → Some i ≡ Some j → i ≡ j
some_same i j e = cc

-- each accepted call keeps it
pub kept_becomes : (s : State) (c : Call) → Kept s → first_of (lines s c) ≡ None → Kept (becomes s c)
unfolding lines becomes
kept_becomes s (enters j) k e =
    let a = admitted s.jobs j (sym (clear_first (open_line s) (push_lines s.jobs j) e).1) in
    let (x, y) = kept_with s.jobs j k.stands a in
    record { stands = x; few = y; waits = λ i h. absurd (none_some i h) }
kept_becomes s (holds j steps) k e =
    let a = admitted s.jobs j (sym (clear_front (push_lines s.jobs j) (price_lines steps s.jobs j) (clear_first (open_line s) (push_lines s.jobs j ++ price_lines steps s.jobs j) e).1).0) in
    record { stands = k.stands; few = k.few; waits = λ i h. subst (λ (x : Job). Admitted s.jobs x) (some_same j i h) a }
kept_becomes s (takes n) k e = by s.held refl
  where
    by : (o : Option Job) → s.held ≡ o → Kept (record { number = s.number; jobs = joined_by s.jobs o; held = None; charges = s.charges })
    by None h = record { stands = k.stands; few = k.few; waits = λ i g. absurd (none_some i g) }
    by (Some j) h = let (x, y) = kept_with s.jobs j k.stands (k.waits j h) in record { stands = x; few = y; waits = λ i g. absurd (none_some i g) }
kept_becomes s (releases n) k e = record { stands = k.stands; few = k.few; waits = λ i g. absurd (none_some i g) }
kept_becomes s strikes k e = record {
  stands = standing_take s.jobs (length s.jobs - 1) k.stands;
  few = let n = length-take (length s.jobs - 1) s.jobs in let f = k.few in omega arith;
  waits = λ i g. absurd (none_some i g);
}
kept_becomes s (plans steps buffer) k e = k
kept_becomes s (closes steps) k e = record { stands = standing_none; few = omega arith; waits = λ i g. absurd (none_some i g) }

pub kept_after : (s : State) (c : Call) → Kept s → Kept (after s c)
kept_after s c k =
    elim (none_or_some (first_of (lines s c))) [
      | inl e ↦ subst Kept (sym (after_accepted s c e)) (kept_becomes s c k e)
      | inr r ↦ subst Kept (sym (after_refused s c r.0 r.1)) k
    ]

pub kept_new : (n : ℕ) → Kept (new n)
kept_new n = record { stands = standing_none; few = omega arith; waits = λ i g. absurd (none_some i g) }
