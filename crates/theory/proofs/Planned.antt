-- The theorems about the plan of a list of jobs: its path may be drawn, so what holds of every drawn plan holds of it.
use Rattle.std.proofs.Common.{◌≡◌, ℕ, true, false, eqb, List, [], ◌∷◌, sym, subst, inl, inr}
use Rattle.std.proofs.lemmas.Bool.{or_cases, eqb-true, false≢true}
use Rattle.model.specs.Sums.{some_of}
use Rattle.model.specs.Steps.{Lawful}
use Rattle.model.specs.Jobs.{Ordered, cuts}
use Rattle.model.specs.Path.{keeps, path, start}
use Rattle.model.specs.Plan.{plan, energy}
use Rattle.model.specs.Ways.{Serves, Least, step_of, share}
use Rattle.model.specs.Speed.{want}
use Rattle.model.specs.Charges.{cost}
use Rattle.model.specs.declared.job.Job.{Job}
use Rattle.model.specs.declared.point.Point.{Point}
use Rattle.model.specs.declared.segment.Segment.{Segment}
use Rattle.model.specs.declared.step.Step.{Step}
use Rattle.theory.specs.Theorems.{PathExists, PathIsOne, PlanServes, PlanIsLeast, WantIsNoWay}
use Rattle.theory.proofs.Law.{kept_from_keeps}
use Rattle.theory.proofs.Cuts.{Among}
use Rattle.theory.proofs.Unique.{same_heights}
use Rattle.theory.proofs.Exists.{path_keeps, CornersAtCuts, path_corners}
use Rattle.theory.proofs.Drawn.{plan_drawn, AtCuts, Drawable}
use Rattle.theory.proofs.Serving.{plan_least}
use Rattle.theory.proofs.Serving as serving
use Rattle.theory.proofs.Wanting.{gentle_path}
use Rattle.theory.proofs.Overfull.{no_way_when_wanting}

among_from : (x : ℕ) (ts : List ℕ) → some_of (λ s. eqb s x) ts ≡ true → Among x ts
unfolding some_of
among_from x [] e = absurd (false≢true e)
among_from x (t ∷ ts) e =
    elim (or_cases (eqb t x) (some_of (λ s. eqb s x) ts) e) [ inl h ↦ inl (sym (eqb-true t x h)) | inr h ↦ inr (among_from x ts h) ]

pub at_cuts_from : (ts : List ℕ) (c : List Point) → CornersAtCuts ts c → AtCuts ts c
at_cuts_from ts [] a = tt
at_cuts_from ts (q ∷ qs) (e, a) = (among_from q.time ts e, at_cuts_from ts qs a)

-- a path of these jobs that has its corners at cuts may be drawn
pub drawable : (steps : List Step) (jobs : List Job) (c : List Point) → Lawful steps → Ordered jobs → want steps jobs ≡ false → keeps jobs c ≡ true → CornersAtCuts (cuts jobs) c → Drawable steps jobs c
drawable steps jobs c l o w k a =
    let kept = kept_from_keeps jobs start c (unfold keeps in k) in
    record {
      lawful = l;
      ordered = o;
      kept = kept;
      at_cuts = at_cuts_from (cuts jobs) c a;
      gentle = gentle_path steps jobs c l o kept w;
    }

pub drawable_path : (steps : List Step) (jobs : List Job) → Lawful steps → Ordered jobs → want steps jobs ≡ false → Drawable steps jobs (path jobs)
drawable_path steps jobs l o w = drawable steps jobs (path jobs) l o w (path_keeps jobs o) (path_corners jobs)

pub path_exists : PathExists
path_exists jobs o = path_keeps jobs o

pub path_is_one : PathIsOne
path_is_one jobs c d k m t l = same_heights jobs c d k m t l

pub plan_serves : PlanServes
plan_serves steps jobs l o w =
    subst (λ (p : List Segment). Serves steps jobs p) (sym (plan_drawn steps jobs)) (serving.plan_serves steps jobs (path jobs) (drawable_path steps jobs l o w))

pub plan_is_least : PlanIsLeast
unfolding cost
plan_is_least steps jobs l o w =
    subst (λ (p : List Segment). Least steps jobs (energy steps p)) (sym (plan_drawn steps jobs)) (plan_least steps jobs (path jobs) (drawable_path steps jobs l o w))

pub want_is_no_way : WantIsNoWay
want_is_no_way steps jobs l o = record {
  none = no_way_when_wanting steps jobs l o;
  some = λ w. record {
    k = 1;
    pick = step_of (plan steps jobs);
    give = share steps jobs (plan steps jobs);
    way = (plan_serves steps jobs l o w).way;
  };
}
