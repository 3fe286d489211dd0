-- All charges together: each accepted close raises them by its energy, and nothing else does.
use Rattle.std.proofs.Common.{◌≡◌, ℕ, zero, suc, ◌+◌, ◌<◌, true, List, [], ◌∷◌, length, get_or, sym, refl, ap, ◌∙◌, inl, inr, add-zero, arith}
use Rattle.std.proofs.lemmas.List.{length_push, get_or_push, get_or_append_left}
use Rattle.std.proofs.lemmas.Bool.{cases_lt}
use Rattle.model.specs.Sums.{sum_to}
use Rattle.model.specs.Jobs.{job_at}
use Rattle.model.specs.Plan.{plan}
use Rattle.model.specs.Charges.{charge, cost}
use Rattle.model.proofs.Sums.{sum_to_cong, sum_to_add}
use Rattle.model.specs.declared.job.Job.{Job}
use Rattle.model.specs.declared.step.Step.{Step}
use Rattle.queue.specs.Queues.{standing}
use Rattle.queue.proofs.Order.{standing_fit, limits}
use Rattle.refusal.specs.Refusals.{first_of}
use Rattle.refusal.proofs.Lines.{none_or_some}
use Rattle.theory.proofs.Paying.{charges_add_up}
use Rattle.charges.specs.Owing.{settled}
use Rattle.book.specs.Calls.{State, Call, Answer, charged, raised, lines, accepts, becomes, answer, after, new}
use Rattle.book.specs.Calls.Call.{enters, holds, takes, releases, strikes, plans, closes}
use Rattle.book.specs.Sound.{energy_closed}
use Rattle.book.proofs.Steps.{answer_refused, answer_accepted, after_refused, after_accepted}
use Rattle.book.proofs.Keeping.{Kept}

raised_length : (steps : List Step) (jobs : List Job) (charges : List ℕ) (n : ℕ) → length (settled steps jobs (plan steps jobs) charges n) ≡ n
unfolding settled
raised_length steps jobs charges zero = refl
raised_length steps jobs charges (suc n) =
    let a = raised_length steps jobs charges n in
    let b = length_push (settled steps jobs (plan steps jobs) charges n) (get_or charges n 0 + charge steps jobs (plan steps jobs) n) in omega arith

raised_place : (steps : List Step) (jobs : List Job) (charges : List ℕ) (n a : ℕ) → a < n → get_or (settled steps jobs (plan steps jobs) charges n) a 0 ≡ get_or charges a 0 + charge steps jobs (plan steps jobs) a
unfolding settled
raised_place steps jobs charges zero a l = absurd (omega arith)
raised_place steps jobs charges (suc n) a l =
    let m = raised_length steps jobs charges n in
    elim (cases_lt a n) [
      | inl k ↦ get_or_append_left (settled steps jobs (plan steps jobs) charges n) (_ ∷ []) 0 a (omega arith) ∙ raised_place steps jobs charges n a k
      | inr k ↦ let e : length (settled steps jobs (plan steps jobs) charges n) ≡ a = omega arith in
          let s : n ≡ a = omega arith in
          get_or_push (settled steps jobs (plan steps jobs) charges n) (get_or charges n 0 + charge steps jobs (plan steps jobs) n) 0 a e ∙ ap (λ (i : ℕ). get_or charges i 0 + charge steps jobs (plan steps jobs) i) s
    ]

raised_is : (steps : List Step) (jobs : List Job) (charges : List ℕ) → raised steps jobs charges ≡ settled steps jobs (plan steps jobs) charges 65
unfolding raised
raised_is steps jobs charges = refl

pub raised_at : (steps : List Step) (jobs : List Job) (charges : List ℕ) (a : ℕ) → a < 65 → get_or (raised steps jobs charges) a 0 ≡ get_or charges a 0 + charge steps jobs (plan steps jobs) a
raised_at steps jobs charges a l = ap (λ (xs : List ℕ). get_or xs a 0) (raised_is steps jobs charges) ∙ raised_place steps jobs charges 65 a l

pub raised_places : (steps : List Step) (jobs : List Job) (charges : List ℕ) → length (raised steps jobs charges) ≡ 65
raised_places steps jobs charges = ap (λ (xs : List ℕ). length xs) (raised_is steps jobs charges) ∙ raised_length steps jobs charges 65

-- a close adds its energy
pub charged_close : (steps : List Step) (jobs : List Job) (charges : List ℕ) → standing jobs ≡ true
    → sum_to 65 (λ a. get_or (raised steps jobs charges) a 0) ≡ sum_to 65 (λ a. get_or charges a 0) + cost steps jobs
unfolding cost
charged_close steps jobs charges st =
    sum_to_cong 65 (λ a. get_or (raised steps jobs charges) a 0) (λ a. get_or charges a 0 + charge steps jobs (plan steps jobs) a) (raised_at steps jobs charges)
    ∙ (sum_to_add 65 (λ a. get_or charges a 0) (charge steps jobs (plan steps jobs))
    ∙ ap (λ (n : ℕ). sum_to 65 (λ a. get_or charges a 0) + n) (charges_add_up steps jobs (plan steps jobs) (λ i l. (limits (job_at jobs i) (standing_fit jobs st i l)).known)))

charged_becomes : (s : State) (c : Call) → Kept s → charged (becomes s c) ≡ charged s + energy_closed (accepts s c)
unfolding charged becomes accepts
charged_becomes s (enters j) k = sym (add-zero _)
charged_becomes s (holds j steps) k = sym (add-zero _)
charged_becomes s (takes n) k = sym (add-zero _)
charged_becomes s (releases n) k = sym (add-zero _)
charged_becomes s strikes k = sym (add-zero _)
charged_becomes s (plans steps buffer) k = sym (add-zero _)
charged_becomes s (closes steps) k = charged_close steps s.jobs s.charges k.stands

-- one call
pub charged_after : (s : State) (c : Call) → Kept s → charged (after s c) ≡ charged s + energy_closed (answer s c)
charged_after s c k =
    elim (none_or_some (first_of (lines s c))) [
      | inl e ↦ ap charged (after_accepted s c e) ∙ (charged_becomes s c k ∙ ap (λ (x : Answer). charged s + energy_closed x) (sym (answer_accepted s c e)))
      | inr r ↦ ap charged (after_refused s c r.0 r.1) ∙ (sym (add-zero (charged s)) ∙ ap (λ (x : Answer). charged s + energy_closed x) (sym (answer_refused s c r.0 r.1)))
    ]

-- a new book
pub charged_new : (n : ℕ) → charged (new n) ≡ 0
unfolding charged sum_to
charged_new n = refl
