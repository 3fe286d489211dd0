-- Working out a plan: what the search, the survey, the sweep and the drawing come to together.
use Rattle.std.proofs.Common.{◌≡◌, ℕ, suc, ◌+◌, ◌<◌, true, false, List, [], ◌∷◌, length, is_some, Some, None, Option, sym, ap, ◌∙◌, subst, inl, inr, add-one, arith}
use Rattle.std.proofs.lemmas.Bool.{cases_Bool, cond-true, cond-false, true≢false, ltb-true}
use Rattle.model.specs.Steps.{Lawful}
use Rattle.model.specs.Jobs.{Ordered}
use Rattle.model.specs.Plan.{plan, energy}
use Rattle.model.specs.Charges.{cost}
use Rattle.model.specs.Speed.{want, wanting}
use Rattle.model.specs.declared.cut.Cut.{Cut}
use Rattle.model.specs.declared.job.Job.{Job}
use Rattle.model.specs.declared.point.Point.{Point}
use Rattle.model.specs.declared.segment.Segment.{Segment}
use Rattle.model.specs.declared.step.Step.{Step}
use Rattle.refusal.specs.Refusals.{told, first_of}
use Rattle.refusal.proofs.Lines.{first_hit, first_pass}
use Rattle.want.specs.Wanted.{wanted}
use Rattle.theory.specs.Survey.{survey}
use Rattle.theory.specs.Sweep.{sweep}
use Rattle.theory.proofs.Drawn.{Drawable, drawn}
use Rattle.theory.proofs.Same.{plan_swept, sweep_drawable}
use Rattle.sweep.specs.Swept.{swept, Rising}
use Rattle.sweep.proofs.Surveyed.{swept_survey, survey_rising}
use Rattle.planner.specs.Planning.{want_line}

some_same : (i j : ℕ) → Some i ≡ Some j → i ≡ j
some_same i j e = cc

some_not_none : (j : ℕ) → Some j ≡ None → ⊥
some_not_none j e = true≢false (ap (λ (o : Option ℕ). is_some o) e)

-- the search found a job
found : (steps : List Step) (jobs : List Job) (j : ℕ) → Some j ≡ wanted steps jobs → (want steps jobs ≡ true) × (j ≡ wanting steps jobs)
unfolding wanted
found steps jobs j e =
    elim (cases_Bool (want steps jobs)) [
      | inl h ↦ (h, some_same j (wanting steps jobs) (e ∙ cond-true (want steps jobs) (Some (wanting steps jobs)) None h))
      | inr h ↦ absurd (some_not_none j (e ∙ cond-false (want steps jobs) (Some (wanting steps jobs)) None h))
    ]

pub found_within : (steps : List Step) (jobs : List Job) (j : ℕ) → Some j ≡ wanted steps jobs → j < length jobs
unfolding want
found_within steps jobs j e = let (h, s) = found steps jobs j e in let l = ltb-true (wanting steps jobs) (length jobs) h in omega arith

pub found_refused : (steps : List Step) (jobs : List Job) (j : ℕ) → Some j ≡ wanted steps jobs → Some (told 16 (j + 1)) ≡ first_of (want_line steps jobs ∷ [])
found_refused steps jobs j e =
    let (h, s) = found steps jobs j e in
    ap (λ (n : ℕ). Some (told 16 n)) (add-one j ∙ ap suc s) ∙ sym (first_hit (want_line steps jobs) [] h)

-- the search found none
pub none_found : (steps : List Step) (jobs : List Job) → None ≡ wanted steps jobs → want steps jobs ≡ false
unfolding wanted
none_found steps jobs e =
    elim (cases_Bool (want steps jobs)) [
      | inl h ↦ absurd (some_not_none (wanting steps jobs) (sym (e ∙ cond-true (want steps jobs) (Some (wanting steps jobs)) None h)))
      | inr h ↦ h
    ]

pub none_accepted : (steps : List Step) (jobs : List Job) → want steps jobs ≡ false → None ≡ first_of (want_line steps jobs ∷ [])
none_accepted steps jobs h = sym (first_pass (want_line steps jobs) [] h)

-- the cuts rise
pub cuts_rising : (jobs : List Job) (cuts : List Cut) → cuts ≡ survey jobs → Rising cuts
cuts_rising jobs cuts e = subst (λ (xs : List Cut). Rising xs) (sym e) (survey_rising jobs)

-- the corners are those of the jobs' sweep
pub corners_are : (jobs : List Job) (cuts : List Cut) (corners : List Point) → Ordered jobs → cuts ≡ survey jobs → corners ≡ swept cuts → corners ≡ sweep jobs
corners_are jobs cuts corners o e f = f ∙ (ap swept e ∙ swept_survey jobs o)

pub corners_drawable : (steps : List Step) (jobs : List Job) (corners : List Point) → Lawful steps → Ordered jobs → want steps jobs ≡ false → corners ≡ sweep jobs → Drawable steps jobs corners
corners_drawable steps jobs corners l o w e = subst (λ (c : List Point). Drawable steps jobs c) (sym e) (sweep_drawable steps jobs l o w)

-- what was drawn is the plan, and its energy the cost
pub drawn_plan : (steps : List Step) (jobs : List Job) (corners : List Point) (out : List Segment) → Lawful steps → Ordered jobs → corners ≡ sweep jobs → out ≡ drawn steps jobs corners → out ≡ plan steps jobs
drawn_plan steps jobs corners out l o e f = f ∙ (ap (λ (c : List Point). drawn steps jobs c) e ∙ sym (plan_swept steps jobs l o))

pub drawn_cost : (steps : List Step) (jobs : List Job) (corners : List Point) (n : ℕ) → Lawful steps → Ordered jobs → corners ≡ sweep jobs → n ≡ energy steps (drawn steps jobs corners) → n ≡ cost steps jobs
unfolding cost
drawn_cost steps jobs corners n l o e f = f ∙ ap (energy steps) (ap (λ (c : List Point). drawn steps jobs c) e ∙ sym (plan_swept steps jobs l o))
