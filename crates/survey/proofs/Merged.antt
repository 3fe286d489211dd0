-- The merge as a walk along the cuts: it stands at the cut at place n with the cuts before it written, and goes from it to the least time ahead.
use Rattle.std.proofs.Common.{◌≡◌, ℕ, ◌+◌, ◌<◌, ◌≤◌, min, Bool, true, false, leb, ◌⊎◌, List, [], ◌∷◌, ◌++◌, map, length, get_or, take, sym, refl, ap, ◌∙◌, subst, inl, inr, add-one, arith}
use Rattle.std.proofs.lemmas.List.{take_all, map_more, length_push}
use Rattle.std.proofs.lemmas.Bool.{cases_lt, cond-true, cond-false, le-leb, lt-leb}
use Rattle.model.specs.Sums.{sum_to}
use Rattle.model.specs.Jobs.{job_at, Ordered, cuts, span}
use Rattle.model.specs.declared.cut.Cut.{Cut}
use Rattle.model.specs.declared.job.Job.{Job}
use Rattle.theory.proofs.Cuts.{Among, arrival_cut, deadline_cut, cut_in_span}
use Rattle.theory.specs.Survey.{cut_of, survey}
use Rattle.survey.specs.Fronts.{time_of, Before, Both, soonest}
use Rattle.survey.specs.declared.front.Front.{Front}
use Rattle.survey.specs.declared.front.Fronts.{Fronts}
use Rattle.survey.proofs.Counted.{times_climb}
use Rattle.survey.proofs.Rising.{place_among, next_cut, last_cut, first_cut, cuts_all}

-- before time 0 there is nothing
pub none_before : (up : Bool) (jobs : List Job) (f : Front) → (f.count ≡ 0) × (f.work ≡ 0) → Before up jobs 0 f
unfolding sum_to
none_before up jobs f e = record {
  within = omega arith;
  whole = rw e.0 e.1;
  past = λ i l. absurd (omega arith);
  ahead = λ i a l. omega arith;
}

-- one work more
pub work_more : (jobs : List Job) (i w : ℕ) → w ≡ sum_to i (λ k. (job_at jobs k).work) → w + (job_at jobs i).work ≡ sum_to (i + 1) (λ k. (job_at jobs k).work)
unfolding sum_to
work_more jobs i w e = rw (add-one i) (omega arith)

-- a front that ends at place i, where the time is above t
pub front_stops :
    (up : Bool) (jobs : List Job) (t i w : ℕ) → Ordered jobs → i ≤ length jobs → w ≡ sum_to i (λ k. (job_at jobs k).work)
    → ((k : ℕ) → k < i → time_of up (job_at jobs k) ≤ t) → (i < length jobs → t < time_of up (job_at jobs i))
    → Before up jobs (t + 1) (record { count = i; work = w })
front_stops up jobs t i w o l e p a = record {
  within = l;
  whole = e;
  past = λ k b. let h = p k b in omega arith;
  ahead = λ k b c. let h = times_climb up jobs o i k b c in let g = a (omega arith) in omega arith;
}

module _ (jobs : List Job) (f : Fronts) where
  -- the soonest time ahead where all jobs have come, and where some have not
  pub soonest_all : length jobs ≤ f.came.count → soonest jobs f ≡ (job_at jobs f.due.count).deadline
  unfolding soonest
  soonest_all l = cond-true (leb (length jobs) f.came.count) _ _ (le-leb _ _ l)

  pub soonest_some : f.came.count < length jobs → soonest jobs f ≡ min (job_at jobs f.came.count).arrival (job_at jobs f.due.count).deadline
  unfolding soonest
  soonest_some l = cond-false (leb (length jobs) f.came.count) _ _ (lt-leb _ _ l)

  -- it is no later than the next deadline, and is one of the two times
  soonest_due : soonest jobs f ≤ (job_at jobs f.due.count).deadline
  soonest_due =
      elim (cases_lt f.came.count (length jobs)) [
        | inl l ↦ let e = soonest_some l in omega arith
        | inr l ↦ let e = soonest_all l in omega arith
      ]

  soonest_is :
      (soonest jobs f ≡ (job_at jobs f.due.count).deadline)
      ⊎ ((f.came.count < length jobs) × (soonest jobs f ≡ (job_at jobs f.came.count).arrival))
  soonest_is =
      elim (cases_lt f.came.count (length jobs)) [
        | inl l ↦
            let e = soonest_some l in
            elim (cases_lt (job_at jobs f.came.count).arrival (job_at jobs f.due.count).deadline) [
              | inl k ↦ inr (l, omega arith)
              | inr k ↦ inl (omega arith)
            ]
        | inr l ↦ inl (soonest_all l)
      ]

module _ (jobs : List Job) (o : Ordered jobs) (t : ℕ) (f : Fronts) (b : Both jobs (t + 1) f) (l : f.due.count < length jobs) where
  -- it is above t
  soonest_after : t < soonest jobs f
  soonest_after =
      elim (soonest_is jobs f) [
        | inl e ↦ let h = b.lower.ahead f.due.count (omega arith) l in omega arith
        | inr (k, e) ↦ let h = b.upper.ahead f.came.count (omega arith) k in omega arith
      ]

  -- it is a cut
  soonest_cut : Among (soonest jobs f) (cuts jobs)
  soonest_cut =
      elim (soonest_is jobs f) [
        | inl e ↦ subst (λ (x : ℕ). Among x (cuts jobs)) (sym e) (deadline_cut jobs f.due.count l)
        | inr (k, e) ↦ subst (λ (x : ℕ). Among x (cuts jobs)) (sym e) (arrival_cut jobs f.came.count k)
      ]

  -- the jobs ahead are not before it
  came_ahead : (i : ℕ) → f.came.count ≤ i → i < length jobs → soonest jobs f ≤ (job_at jobs i).arrival
  came_ahead i a k = let h = times_climb true jobs o f.came.count i a k in let s = soonest_some jobs f (omega arith) in omega arith

  due_ahead : (i : ℕ) → f.due.count ≤ i → i < length jobs → soonest jobs f ≤ (job_at jobs i).deadline
  due_ahead i a k = let h = times_climb false jobs o f.due.count i a k in let s = soonest_due jobs f in omega arith

  -- no cut is between
  soonest_least : (x : ℕ) → Among x (cuts jobs) → t < x → soonest jobs f ≤ x
  soonest_least =
      cuts_all (λ x. t < x → soonest jobs f ≤ x) jobs (λ k. absurd (omega arith))
      (λ i k h. elim (cases_lt i f.came.count) [ inl m ↦ let p = b.upper.past i m in absurd (omega arith) | inr m ↦ came_ahead i m k ])
      (λ i k h. elim (cases_lt i f.due.count) [ inl m ↦ let p = b.lower.past i m in absurd (omega arith) | inr m ↦ due_ahead i m k ])

  -- the fronts up to t are those before it
  soonest_held : Both jobs (soonest jobs f) f
  soonest_held =
      let s = soonest_after in
      record {
        upper = record { within = b.upper.within; whole = b.upper.whole; past = λ i k. let p = b.upper.past i k in omega arith; ahead = came_ahead };
        lower = record { within = b.lower.within; whole = b.lower.whole; past = λ i k. let p = b.lower.past i k in omega arith; ahead = due_ahead };
      }

-- where all jobs are due, no cut is ahead
all_behind : (jobs : List Job) (o : Ordered jobs) (t : ℕ) (f : Fronts) → Both jobs (t + 1) f → f.due.count ≡ length jobs → (x : ℕ) → Among x (cuts jobs) → x ≤ t
all_behind jobs o t f b e =
    cuts_all (λ x. x ≤ t) jobs (omega arith)
    (λ i k. let p = b.lower.past i (omega arith) in let h = o.timely i k in omega arith)
    (λ i k. let p = b.lower.past i (omega arith) in omega arith)

-- the merge stands at time t, with the cuts before it written
pub record At (jobs : List Job) (out : List Cut) (t : ℕ) (f : Fronts) : Type 0 where
  pub more : length out < length (cuts jobs)
  pub here : get_or (cuts jobs) (length out) 0 ≡ t
  pub written : out ≡ map (cut_of jobs) (take (length out) (cuts jobs))
  pub fronts : Both jobs t f

pub at_start :
    (jobs : List Job) (out : List Cut) (f : Fronts) → out ≡ [] → ((f.came.count ≡ 0) × (f.came.work ≡ 0)) × ((f.due.count ≡ 0) × (f.due.work ≡ 0))
    → At jobs out 0 f
at_start jobs out f n e = record {
  more = rw n (first_cut jobs).0;
  here = rw n (first_cut jobs).1;
  written = rw n refl;
  fronts = record { upper = none_before true jobs f.came e.0; lower = none_before false jobs f.due e.1 };
}

-- the time is within the span
pub at_within : (jobs : List Job) (out : List Cut) (t : ℕ) (f : Fronts) → Ordered jobs → At jobs out t f → t ≤ span jobs
at_within jobs out t f o a =
    subst (λ (x : ℕ). x ≤ span jobs) a.here (cut_in_span jobs o (get_or (cuts jobs) (length out) 0) (place_among (cuts jobs) (length out) a.more))

module _ (jobs : List Job) (o : Ordered jobs) (out : List Cut) (t : ℕ) (f g : Fronts) (x : Cut) (a : At jobs out t f) (b : Both jobs (t + 1) g) (w : x ≡ cut_of jobs t) where
  -- the cut at this time is written too
  write_one : out ++ (x ∷ []) ≡ map (cut_of jobs) (take (length out + 1) (cuts jobs))
  write_one =
      let m = map_more (cut_of jobs) (cuts jobs) (length out) 0 a.more in
      let h = a.here in
      let k = a.written in
      cc

  -- where a deadline is ahead, the merge goes on to the soonest time
  pub at_next : (u : ℕ) → u ≡ soonest jobs g → g.due.count < length jobs → At jobs (out ++ (x ∷ [])) u g
  at_next u e l =
      let h = a.here in
      let s : get_or (cuts jobs) (length out) 0 < soonest jobs g = let k = soonest_after jobs o t g b l in omega arith in
      let (m, z) = next_cut jobs (length out) a.more (soonest jobs g) (soonest_cut jobs o t g b l) s (λ y q k. soonest_least jobs o t g b l y q (omega arith)) in
      let n : length (out ++ (x ∷ [])) ≡ length out + 1 = length_push out x in
      record {
        more = omega arith;
        here = rw n (rw (add-one (length out)) (z ∙ sym e));
        written = rw n write_one;
        fronts = subst (λ (y : ℕ). Both jobs y g) (sym e) (soonest_held jobs o t g b l);
      }

  -- where none is, all cuts are written
  pub at_end : g.due.count ≡ length jobs → out ++ (x ∷ []) ≡ survey jobs
  unfolding survey
  at_end e =
      let k = last_cut jobs (length out) a.more (λ y m. let h = a.here in let c = all_behind jobs o t g b e y m in omega arith) in
      write_one ∙ ap (map (cut_of jobs)) (take_all (length out + 1) (cuts jobs) (omega arith))
