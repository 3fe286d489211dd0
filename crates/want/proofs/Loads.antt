-- The runs to one job, from the shortest on: the load of each is that of the one before with one work more,
-- and the job is starved where the first overfull one is met, and not where all are passed.
use Rattle.std.proofs.Common.{◌≡◌, ℕ, zero, suc, ◌+◌, ◌-◌, ◌*◌, ◌<◌, ◌≤◌, true, false, ltb, List, length, get_or, take, ◌++◌, [], ◌∷◌, Some, None, sym, refl, ap, ◌∙◌, subst, inl, inr, mul-le-mul_right, mul-le-mul_left, arith}
use Rattle.std.proofs.lemmas.List.{length-take-le, length_push, get_or-take, get_or_push, take-take}
use Rattle.std.proofs.Math.Seq.{take-append_seam}
use Rattle.std.proofs.lemmas.Bool.{cases_lt, cases_Bool, cond-true, cond-false, lt-ltb, le-ltb, both_ways}
use Rattle.model.specs.Sums.{sum_to, any_below, first_below}
use Rattle.model.specs.Steps.{top_speed, Lawful}
use Rattle.model.specs.Jobs.{no_job, job_at}
use Rattle.model.specs.Speed.{load, overfull, starved, wanting, want}
use Rattle.model.specs.declared.job.Job.{Job}
use Rattle.model.specs.declared.step.Step.{Step}
use Rattle.model.proofs.First.{first_here}
use Rattle.model.proofs.Sums.{sum_to_zero, sum_to_cong, any_from, any_at}
use Rattle.queue.specs.Queues.{standing}
use Rattle.queue.proofs.Order.{standing_fit, limits, ordered_from}
use Rattle.theory.proofs.Shares.{deadlines_climb}
use Rattle.theory.proofs.Walls.{sum_to_first}
use Rattle.want.specs.Wanted.{wanted}

-- no job after j has no load
pub load_none : (jobs : List Job) (j : ℕ) → load jobs (j + 1) j ≡ 0
unfolding load
load_none jobs j =
    let e : suc j - (j + 1) ≡ 0 = omega arith in
    ap (λ (n : ℕ). sum_to n (λ m. (job_at jobs (j + 1 + m)).work)) e ∙ sum_to_zero (λ m. (job_at jobs (j + 1 + m)).work)

-- a run with the job before it
load_before : (jobs : List Job) (i j : ℕ) → i ≤ j → load jobs (i + 1) j + (job_at jobs i).work ≡ load jobs i j
unfolding load
load_before jobs i j l =
    let e : suc j - i ≡ suc (j - i) = omega arith in
    let d : suc j - (i + 1) ≡ j - i = omega arith in
    let a = ap (λ (n : ℕ). sum_to n (λ m. (job_at jobs (i + m)).work)) e in
    let b = sum_to_first (j - i) (λ m. (job_at jobs (i + m)).work) in
    let c = ap (λ (n : ℕ). sum_to n (λ m. (job_at jobs (i + 1 + m)).work)) d in
    let f = sum_to_cong (j - i) (λ m. (job_at jobs (i + 1 + m)).work) (λ m. (job_at jobs (i + suc m)).work)
    (λ m x. ap (λ (k : ℕ). (job_at jobs k).work) (let s : i + 1 + m ≡ i + suc m = omega arith in s)) in
    let h : (job_at jobs (i + 0)).work ≡ (job_at jobs i).work = ap (λ (k : ℕ). (job_at jobs k).work) (let s : i + 0 ≡ i = omega arith in s) in
    omega arith

pub load_more : (jobs : List Job) (i j w : ℕ) → 0 < i → i ≤ j + 1 → w ≡ load jobs i j → w + (job_at jobs (i - 1)).work ≡ load jobs (i - 1) j
load_more jobs i j w p l e =
    let s : i - 1 + 1 ≡ i = omega arith in
    let a = load_before jobs (i - 1) j (omega arith) in
    let b = ap (λ (k : ℕ). load jobs k j) s in
    omega arith

-- the loads of standing jobs are small
loads_small : (jobs : List Job) → standing jobs ≡ true → (i n : ℕ) → i + n ≤ length jobs → sum_to n (λ m. (job_at jobs (i + m)).work) ≤ 1000000 * n
unfolding sum_to
loads_small jobs e i zero l = omega arith
loads_small jobs e i (suc n) l =
    let a = loads_small jobs e i n (omega arith) in
    let b = (limits (job_at jobs (i + n)) (standing_fit jobs e (i + n) (omega arith))).small in
    omega arith

pub load_small : (jobs : List Job) → standing jobs ≡ true → (i j : ℕ) → i ≤ j + 1 → j < length jobs → load jobs i j ≤ 1000000 * length jobs
unfolding load
load_small jobs e i j l b = let a = loads_small jobs e i (suc j - i) (omega arith) in omega arith

-- the top speed and the time of a run are small, and so is their product
pub top_small : (steps : List Step) → Lawful steps → top_speed steps ≤ 4000
unfolding top_speed
top_small steps w = let l = w.least in w.fast (length steps - 1) (omega arith)

pub time_left : (jobs : List Job) → standing jobs ≡ true → (i j : ℕ) → i ≤ j → j < length jobs → (job_at jobs i).arrival ≤ (job_at jobs j).deadline
time_left jobs e i j l b =
    let a = (ordered_from jobs e).timely i (omega arith) in
    let d = deadlines_climb jobs (ordered_from jobs e) i j l b in
    omega arith

pub room_small : (jobs : List Job) → standing jobs ≡ true → (top i j : ℕ) → top ≤ 4000 → j < length jobs → top * ((job_at jobs j).deadline - (job_at jobs i).arrival) ≤ 800000000
room_small jobs e top i j t b =
    let d = (limits (job_at jobs j) (standing_fit jobs e j b)).soon in
    let x : ℕ = (job_at jobs j).deadline - (job_at jobs i).arrival in
    let y : x ≤ 200000 = omega arith in
    let p = mul-le-mul_right x t in
    let q = mul-le-mul_left 4000 y in
    omega arith

module _ (steps : List Step) (jobs : List Job) where
  -- the runs to j that start at i or later are not overfull
  pub record Passed (i j : ℕ) : Type 0 where
    pub each : (k : ℕ) → i ≤ k → k ≤ j → overfull steps jobs k j ≡ false

  pub passed_none : (j : ℕ) → Passed (j + 1) j
  passed_none j = record { each = λ k a b. absurd (omega arith) }

  pub passed_more : (i j : ℕ) → 0 < i → Passed i j → overfull steps jobs (i - 1) j ≡ false → Passed (i - 1) j
  passed_more i j z p e = record {
    each = λ k a b. elim (cases_lt (i - 1) k) [
      | inl l ↦ p.each k (omega arith) b
      | inr l ↦ let s : i - 1 ≡ k = omega arith in subst (λ (x : ℕ). overfull steps jobs x j ≡ false) s e
    ];
  }

  -- the job is not starved where all runs are passed
  pub not_starved : (j : ℕ) → Passed 0 j → starved steps jobs j ≡ false
  unfolding starved
  not_starved j p =
      elim (cases_Bool (any_below (suc j) (λ i. overfull steps jobs i j))) [
        | inl e ↦
            let (i, l, o) = any_at (suc j) (λ i. overfull steps jobs i j) e in
            absurd (both_ways (overfull steps jobs i j) (p.each i (omega arith) (omega arith)) o)
        | inr e ↦ e
      ]

  -- and is where one is overfull
  pub is_starved : (i j : ℕ) → i ≤ j → overfull steps jobs i j ≡ true → starved steps jobs j ≡ true
  unfolding starved
  is_starved i j l e = any_from (suc j) (λ k. overfull steps jobs k j) i (omega arith) e

  -- a test of the load at hand is a test of the run
  pub fits : (top i j w : ℕ) → top ≡ top_speed steps → w ≡ load jobs i j → w ≤ top * ((job_at jobs j).deadline - (job_at jobs i).arrival) → overfull steps jobs i j ≡ false
  unfolding overfull
  fits top i j w t e l = le-ltb _ _ (let a = ap (λ (x : ℕ). x * ((job_at jobs j).deadline - (job_at jobs i).arrival)) t in omega arith)

  pub overflows : (top i j w : ℕ) → top ≡ top_speed steps → w ≡ load jobs i j → top * ((job_at jobs j).deadline - (job_at jobs i).arrival) < w → overfull steps jobs i j ≡ true
  unfolding overfull
  overflows top i j w t e l = lt-ltb _ _ (let a = ap (λ (x : ℕ). x * ((job_at jobs j).deadline - (job_at jobs i).arrival)) t in omega arith)

  -- the runs to j are passed that start after these first jobs, and the last of them has this load
  pub record Left (rest : List Job) (j w : ℕ) : Type 0 where
    pub begins : rest ≡ take (length rest) jobs
    pub within : length rest ≤ j + 1
    pub loaded : w ≡ load jobs (length rest) j
    pub passed : Passed (length rest) j

  pub left_all : (rest : List Job) (j : ℕ) → j < length jobs → rest ≡ take (j + 1) jobs → Left rest j 0
  left_all rest j l e =
      let n : length rest ≡ j + 1 = ap (λ (xs : List Job). length xs) e ∙ length-take-le (j + 1) jobs (omega arith) in
      record {
        begins = rw n e;
        within = omega arith;
        loaded = rw n (sym (load_none jobs j));
        passed = rw n (passed_none j);
      }

  -- the last of them
  pub record Last (rest more : List Job) (x : Job) (j w : ℕ) : Type 0 where
    pub count : length rest ≡ length more + 1
    pub within : length more ≤ j
    pub here : job_at jobs (length more) ≡ x
    pub begins : more ≡ take (length more) jobs
    pub loaded : w + x.work ≡ load jobs (length more) j

  pub last_left : (rest more : List Job) (x : Job) (j w : ℕ) → rest ≡ more ++ (x ∷ []) → Left rest j w → Last rest more x j w
  unfolding job_at
  last_left rest more x j w e l =
      let n : length rest ≡ length more + 1 = ap (λ (xs : List Job). length xs) e ∙ length_push more x in
      let t : more ++ (x ∷ []) ≡ take (length more + 1) jobs = sym e ∙ (l.begins ∙ ap (λ (k : ℕ). take k jobs) n) in
      let h : get_or jobs (length more) no_job ≡ x =
      sym (ap (λ (xs : List Job). get_or xs (length more) no_job) t ∙ get_or-take (length more + 1) jobs (length more) no_job (omega arith))
      ∙ get_or_push more x no_job (length more) refl
      in
      let m = load_more jobs (length rest) j w (omega arith) l.within l.loaded in
      let i : length rest - 1 ≡ length more = omega arith in
      record {
        count = n;
        within = let a = l.within in omega arith;
        here = h;
        begins = sym (take-append_seam more (x ∷ [])) ∙ (ap (take (length more)) t ∙ take-take (length more) (length more + 1) jobs (omega arith));
        loaded = ap (λ (y : Job). w + y.work) (sym h) ∙ (ap (λ (k : ℕ). w + (job_at jobs k).work) (sym i) ∙ (m ∙ ap (λ (k : ℕ). load jobs k j) i));
      }

  pub left_more : (rest more : List Job) (x : Job) (j w : ℕ) → Left rest j w → Last rest more x j w → overfull steps jobs (length more) j ≡ false → Left more j (w + x.work)
  left_more rest more x j w l a e =
      let i : length rest - 1 ≡ length more = let n = a.count in omega arith in
      record {
        begins = a.begins;
        within = let b = a.within in omega arith;
        loaded = a.loaded;
        passed =
            subst (λ (k : ℕ). Passed k j) i
            (passed_more (length rest) j (let n = a.count in omega arith) l.passed (subst (λ (k : ℕ). overfull steps jobs k j ≡ false) (sym i) e));
      }

  pub none_left : (rest : List Job) (j w : ℕ) → length rest ≡ 0 → Left rest j w → starved steps jobs j ≡ false
  none_left rest j w z l = not_starved j (subst (λ (k : ℕ). Passed k j) z l.passed)

  -- the answer where the search stopped at j, and where it came to the end
  pub wanted_here : (j : ℕ) → j < length jobs → first_below j (starved steps jobs) ≡ j → starved steps jobs j ≡ true → Some j ≡ wanted steps jobs
  unfolding wanted want wanting
  wanted_here j l e s =
      let h = first_here (length jobs) j (starved steps jobs) e s l in
      sym (cond-true (ltb (first_below (length jobs) (starved steps jobs)) (length jobs)) _ _ (lt-ltb _ _ (omega arith)) ∙ ap Some h)

  pub wanted_none : first_below (length jobs) (starved steps jobs) ≡ length jobs → None ≡ wanted steps jobs
  unfolding wanted want wanting
  wanted_none e = sym (cond-false (ltb (first_below (length jobs) (starved steps jobs)) (length jobs)) _ _ (le-ltb _ _ (omega arith)))
