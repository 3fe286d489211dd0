-- What a queue keeps, as one job more is put at its end and as jobs are taken from it.
use Rattle.std.proofs.Common.{◌≡◌, ℕ, suc, ◌-◌, ◌<◌, ◌≤◌, Bool, true, ◌&&◌, ltb, leb, List, [], ◌∷◌, ◌++◌, length, get_or, take, sym, ap, ◌∙◌, subst, subst₂, inl, inr, Option, Some, None, MatchOption, Bor, arith}
use lib.Dec.{leb-zero}
use Rattle.std.proofs.lemmas.List.{length_push, get_or_push, get_or_append_left, length-take, get_or-take, get_or_past}
use Rattle.std.proofs.lemmas.Option.{none-some, get_or_from_slice_get, slice_get_cases}
use Rattle.std.specs.Option.{option_copied}
use Rattle.std.specs.List.{slice_get}
use Rattle.std.proofs.lemmas.Bool.{and_parts, and_from, cases_lt, leb-true, ltb-true}
use Rattle.model.specs.Jobs.{no_job, job_at, Ordered}
use Rattle.model.specs.declared.job.Job.{Job}
use Rattle.model.proofs.Sums.{all_at, all_from}
use Rattle.queue.specs.Queues.{good_times, good_work, good_account, follows, last_of, fit, standing}

-- what stands, job by job
pub standing_fit : (jobs : List Job) → standing jobs ≡ true → (i : ℕ) → i < length jobs → fit (job_at jobs i) ≡ true
unfolding standing
standing_fit jobs e i l = all_at (length jobs) (λ i. fit (job_at jobs i)) (and_parts _ _ e).0 i l

pub standing_follows : (jobs : List Job) → standing jobs ≡ true → (i : ℕ) → suc i < length jobs → follows (job_at jobs i) (job_at jobs (suc i)) ≡ true
unfolding standing
standing_follows jobs e i l = all_at (length jobs - 1) (λ i. follows (job_at jobs i) (job_at jobs (suc i))) (and_parts _ _ e).1 i (omega arith)

pub standing_from :
    (jobs : List Job) → ((i : ℕ) → i < length jobs → fit (job_at jobs i) ≡ true)
    → ((i : ℕ) → suc i < length jobs → follows (job_at jobs i) (job_at jobs (suc i)) ≡ true) → standing jobs ≡ true
unfolding standing
standing_from jobs f g =
    and_from _ _ (all_from (length jobs) (λ i. fit (job_at jobs i)) f)
    (all_from (length jobs - 1) (λ i. follows (job_at jobs i) (job_at jobs (suc i))) (λ i l. g i (omega arith)))

pub standing_none : standing [] ≡ true
standing_none = standing_from [] (λ i l. absurd (omega arith)) (λ i l. absurd (omega arith))

-- the jobs of a queue with one more
job_old : (jobs : List Job) (j : Job) (i : ℕ) → i < length jobs → job_at (jobs ++ (j ∷ [])) i ≡ job_at jobs i
unfolding job_at
job_old jobs j i l = get_or_append_left jobs (j ∷ []) no_job i l

job_new : (jobs : List Job) (j : Job) (i : ℕ) → length jobs ≡ i → job_at (jobs ++ (j ∷ [])) i ≡ j
unfolding job_at
job_new jobs j i e = get_or_push jobs j no_job i e

-- a job within its limits that follows the last may be put at the end
pub standing_push : (jobs : List Job) (j : Job) → standing jobs ≡ true → fit j ≡ true → follows (last_of jobs) j ≡ true → standing (jobs ++ (j ∷ [])) ≡ true
unfolding last_of
standing_push jobs j e f g =
    standing_from (jobs ++ (j ∷ []))
    (λ i l. elim (cases_lt i (length jobs)) [
      | inl k ↦ subst (λ (x : Job). fit x ≡ true) (sym (job_old jobs j i k)) (standing_fit jobs e i k)
      | inr k ↦ subst (λ (x : Job). fit x ≡ true) (sym (job_new jobs j i (let n = length_push jobs j in omega arith))) f
    ])
    (λ i l. elim (cases_lt (suc i) (length jobs)) [
      | inl k ↦ subst₂ (λ (x y : Job). follows x y ≡ true) (sym (job_old jobs j i (omega arith))) (sym (job_old jobs j (suc i) k)) (standing_follows jobs e i k)
      | inr k ↦
          let n = length_push jobs j in
          let s : length jobs ≡ suc i = omega arith in
          let m : length jobs - 1 ≡ i = omega arith in
          subst₂ (λ (x y : Job). follows x y ≡ true) (sym (job_old jobs j i (omega arith) ∙ ap (λ (k : ℕ). job_at jobs k) (sym m))) (sym (job_new jobs j (suc i) s)) g
    ])

-- the first jobs of a queue stand too
job_taken : (jobs : List Job) (n i : ℕ) → i < length (take n jobs) → job_at (take n jobs) i ≡ job_at jobs i
unfolding job_at
job_taken jobs n i l = let e = length-take n jobs in get_or-take n jobs i no_job (omega arith)

pub standing_take : (jobs : List Job) (n : ℕ) → standing jobs ≡ true → standing (take n jobs) ≡ true
standing_take jobs n e =
    let m = length-take n jobs in
    standing_from (take n jobs)
    (λ i l. subst (λ (x : Job). fit x ≡ true) (sym (job_taken jobs n i l)) (standing_fit jobs e i (omega arith)))
    (λ i l. subst₂ (λ (x y : Job). follows x y ≡ true) (sym (job_taken jobs n i (omega arith))) (sym (job_taken jobs n (suc i) l)) (standing_follows jobs e i (omega arith)))

-- a job's limits
pub record Limits (j : Job) : Type 0 where
  pub timely : j.arrival < j.deadline
  pub soon : j.deadline ≤ 200000
  pub worked : 0 < j.work
  pub small : j.work ≤ 1000000
  pub named : 0 < j.account
  pub known : j.account ≤ 64

pub limits : (j : Job) → fit j ≡ true → Limits j
limits j e =
    let (t, r) = and_parts (good_times j) (good_work j && good_account j) e in
    let (w, a) = and_parts (good_work j) (good_account j) r in
    let (t1, t2) = and_parts (ltb j.arrival j.deadline) (leb j.deadline 200000) t in
    let (w1, w2) = and_parts (leb 1 j.work) (leb j.work 1000000) w in
    let (a1, a2) = and_parts (leb 1 j.account) (leb j.account 64) a in
    record {
      timely = ltb-true _ _ t1;
      soon = leb-true _ _ t2;
      worked = leb-true _ _ w1;
      small = leb-true _ _ w2;
      named = leb-true _ _ a1;
      known = leb-true _ _ a2;
    }

-- standing jobs are in book order
pub ordered_from : (jobs : List Job) → standing jobs ≡ true → Ordered jobs
ordered_from jobs e = record {
  timely = λ i l. (limits (job_at jobs i) (standing_fit jobs e i l)).timely;
  worked = λ i l. (limits (job_at jobs i) (standing_fit jobs e i l)).worked;
  arrivals = λ i l. leb-true _ _ (and_parts _ _ (standing_follows jobs e i l)).0;
  deadlines = λ i l. leb-true _ _ (and_parts _ _ (standing_follows jobs e i l)).1;
}

-- without jobs, every job follows
pub follows_none : (jobs : List Job) (j : Job) → length jobs ≡ 0 → follows (last_of jobs) j ≡ true
unfolding last_of job_at
follows_none jobs j e =
    let p : get_or jobs (length jobs - 1) no_job ≡ no_job = get_or_past jobs (length jobs - 1) no_job (omega arith) in
    subst (λ (x : Job). follows x j ≡ true) (sym p) (and_from _ _ (leb-zero j.arrival) (leb-zero j.deadline))

-- what is asked of the last job, where there is one
pub followed :
    (jobs : List Job) (o : Option (Bor Job)) (j : Job) (b : Bool) → option_copied o ≡ slice_get jobs (length jobs - 1)
    → MatchOption o (b ≡ true) (λ x. b ≡ follows x.now j) → b ≡ follows (last_of jobs) j
unfolding last_of job_at
followed jobs None j b e m =
    elim (slice_get_cases jobs (length jobs - 1)).1 [
      | inl (x, l, s, g) ↦ absurd (none-some x (e ∙ s))
      | inr (l, s) ↦ m ∙ sym (follows_none jobs j (omega arith))
    ]
followed jobs (Some x) j b e m = m ∙ ap (λ (y : Job). follows y j) (sym (get_or_from_slice_get jobs (length jobs - 1) x.now no_job (sym e)))
