-- Every list of calls on a new book is sound: by induction along the list, from what every book keeps.
use Rattle.std.proofs.Common.{◌≡◌, ℕ, suc, ◌+◌, true, false, ltb, List, [], ◌∷◌, length, is_some, Some, None, Option, sym, refl, ap, ◌∙◌, subst, inl, inr, add-zero, arith}
use Rattle.std.proofs.lemmas.Bool.{cases_Bool, true≢false, both_ways}
use Rattle.model.specs.Plan.{plan}
use Rattle.model.specs.Charges.{cost}
use Rattle.model.specs.Speed.{want, wanting}
use Rattle.model.specs.declared.job.Job.{Job}
use Rattle.model.specs.declared.segment.Segment.{Segment}
use Rattle.model.specs.declared.step.Step.{Step}
use Rattle.queue.proofs.Order.{ordered_from}
use Rattle.planner.specs.Planning.{Worth, want_line, room_line, plan_lines}
use Rattle.planner.proofs.Worthy.{worthy}
use Rattle.refusal.specs.Refusals.{Told, told, first_of}
use Rattle.refusal.proofs.Lines.{first_hit, first_pass, none_or_some}
use Rattle.book.specs.Calls.{State, Call, Answer, new, charged, limit_line, open_line, lines, accepts, answer, after, run_from, run}
use Rattle.book.specs.Calls.Call.{enters, holds, takes, releases, strikes, plans, closes}
use Rattle.book.specs.Calls.Answer.{refused}
use Rattle.book.specs.Sound.{LawfulCall, AllLawful, PlanGood, WantExact, CloseLeast, Good, AllGood, closed_energy, Sound}
use Rattle.book.proofs.Steps.{answer_refused, answer_accepted}
use Rattle.book.proofs.Keeping.{Kept, clear_first, kept_after, kept_new}
use Rattle.book.proofs.Totals.{charged_after, charged_new}

not_held : (o : Option Job) → is_some o ≡ false → o ≡ None
not_held None e = refl
not_held (Some j) e = absurd (true≢false e)

-- a plan, by the first line of its table that holds
module _ (s : State) (steps : List Step) (buffer : List Segment) (w : Worth steps s.jobs) where
  Fine : Answer → Type 0
  Fine a = PlanGood s steps buffer a × WantExact s steps a

  -- the table of a plan
  table : lines s (plans steps buffer) ≡ open_line s ∷ plan_lines steps s.jobs (length buffer)
  unfolding lines
  table = refl

  by_table : (t : Told) → first_of (open_line s ∷ plan_lines steps s.jobs (length buffer)) ≡ Some t → answer s (plans steps buffer) ≡ refused t
  by_table t e = answer_refused s (plans steps buffer) t (ap first_of table ∙ e)

  plan_open : is_some s.held ≡ true → Fine (answer s (plans steps buffer))
  unfolding Fine
  plan_open h =
      subst Fine (sym (by_table (told 8 0) (first_hit (open_line s) (plan_lines steps s.jobs (length buffer)) h))) (
        tt,
        record {
          only = λ e. absurd (omega (arith, e));
          always = λ e n. absurd (both_ways (is_some s.held) (ap (λ (o : Option Job). is_some o) e) h);
        },
      )

  plan_wanting : is_some s.held ≡ false → want steps s.jobs ≡ true → Fine (answer s (plans steps buffer))
  unfolding Fine
  plan_wanting h x =
      subst Fine
      (sym (by_table (told 16 (suc (wanting steps s.jobs)))
      (first_pass (open_line s) (plan_lines steps s.jobs (length buffer)) h ∙ first_hit (want_line steps s.jobs) (room_line steps s.jobs (length buffer) ∷ []) x)))
      (tt, record { only = λ e. (not_held s.held h, w.no_way x); always = λ e n. refl })

  plan_short : is_some s.held ≡ false → want steps s.jobs ≡ false → ltb (length buffer) (length (plan steps s.jobs)) ≡ true → Fine (answer s (plans steps buffer))
  unfolding Fine
  plan_short h x r =
      subst Fine
      (sym (by_table (told 18 (length (plan steps s.jobs)))
      (first_pass (open_line s) (plan_lines steps s.jobs (length buffer)) h
      ∙ (first_pass (want_line steps s.jobs) (room_line steps s.jobs (length buffer) ∷ []) x
      ∙ first_hit (room_line steps s.jobs (length buffer)) [] r))))
      (tt, record { only = λ e. absurd (omega (arith, e)); always = λ e n. absurd (n (w.some_way x)) })

  plan_taken : is_some s.held ≡ false → want steps s.jobs ≡ false → ltb (length buffer) (length (plan steps s.jobs)) ≡ false → Fine (answer s (plans steps buffer))
  unfolding Fine accepts cost
  plan_taken h x r =
      subst Fine
      (sym (answer_accepted s (plans steps buffer)
      (ap first_of table
      ∙ (first_pass (open_line s) (plan_lines steps s.jobs (length buffer)) h
      ∙ (first_pass (want_line steps s.jobs) (room_line steps s.jobs (length buffer) ∷ []) x
      ∙ first_pass (room_line steps s.jobs (length buffer)) [] r))))) (
        record { count = refl; filled_is = refl; energy_is = refl; serves = w.serves x; unbeaten = (w.least x).unbeaten },
        record { only = λ e. absurd e; always = λ e n. absurd (n (w.some_way x)) },
      )

  pub good_plan : PlanGood s steps buffer (answer s (plans steps buffer)) × WantExact s steps (answer s (plans steps buffer))
  unfolding Fine
  good_plan =
      elim (cases_Bool (is_some s.held)) [
        | inl h ↦ plan_open h
        | inr h ↦ elim (cases_Bool (want steps s.jobs)) [
          | inl x ↦ plan_wanting h x
          | inr x ↦ elim (cases_Bool (ltb (length buffer) (length (plan steps s.jobs)))) [ inl r ↦ plan_short h x r | inr r ↦ plan_taken h x r ]
        ]
      ]

-- a close, by whether its table refuses it
good_close : (s : State) (steps : List Step) → Worth steps s.jobs → CloseLeast s steps (answer s (closes steps))
good_close s steps w =
    elim (none_or_some (first_of (lines s (closes steps)))) [
      | inl e ↦ subst (CloseLeast s steps) (sym (answer_accepted s (closes steps) e)) (taken e)
      | inr r ↦ subst (CloseLeast s steps) (sym (answer_refused s (closes steps) r.0 r.1)) tt
    ]
  where
    taken : first_of (lines s (closes steps)) ≡ None → CloseLeast s steps (accepts s (closes steps))
    taken e = unfold accepts in w.least (clear_first (want_line steps s.jobs) (limit_line s steps ∷ []) (clear_first (open_line s) (want_line steps s.jobs ∷ (limit_line s steps ∷ [])) (unfold lines in e)).1).0

-- one call in a book
good_call : (s : State) (c : Call) → Kept s → LawfulCall c → Good s c
good_call s (enters j) k l = tt
good_call s (holds j steps) k l = tt
good_call s (takes n) k l = tt
good_call s (releases n) k l = tt
good_call s strikes k l = tt
good_call s (plans steps buffer) k l = good_plan s steps buffer (worthy steps s.jobs l (ordered_from s.jobs k.stands))
good_call s (closes steps) k l = good_close s steps (worthy steps s.jobs l (ordered_from s.jobs k.stands))

-- along a list
all_good : (s : State) (calls : List Call) → Kept s → AllLawful calls → AllGood s calls
all_good s [] k l = tt
all_good s (c ∷ cs) k (l, ls) = (good_call s c k l, all_good (after s c) cs (kept_after s c k) ls)

all_sums : (s : State) (calls : List Call) → Kept s → charged (run_from s calls) ≡ charged s + closed_energy s calls
unfolding run_from closed_energy
all_sums s [] k = sym (add-zero (charged s))
all_sums s (c ∷ cs) k =
    let a = all_sums (after s c) cs (kept_after s c k) in
    let b = charged_after s c k in
    omega arith

-- every list of calls is sound
pub sound : (number : ℕ) (calls : List Call) → AllLawful calls → Sound number calls
unfolding run
sound number calls l =
    let a = all_sums (new number) calls (kept_new number) in
    let b = charged_new number in
    record { good = all_good (new number) calls (kept_new number) l; sums = omega arith }

-- every book that a list of calls leads to keeps what books keep
pub kept_run : (s : State) (calls : List Call) → Kept s → Kept (run_from s calls)
unfolding run_from
kept_run s [] k = k
kept_run s (c ∷ cs) k = kept_run (after s c) cs (kept_after s c k)
