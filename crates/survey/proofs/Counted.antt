-- What the fronts of the two walls tell of a time: the heights there, and whether a wall puts a point.
-- The jobs are in order, so those that a wall counts before a time are the first ones, and their works add up to its height.
use Rattle.std.proofs.Common.{◌≡◌, ℕ, zero, suc, ◌+◌, ◌-◌, ◌*◌, ◌<◌, ◌≤◌, Bool, true, false, cond, ◌||◌, eqb, ltb, leb, List, [], ◌∷◌, length, get_or, take, drop, length-drop, sym, refl, ap, ◌∙◌, inl, inr, arith}
use Rattle.std.proofs.lemmas.List.{get_or-drop, take_all}
use Rattle.std.proofs.lemmas.Bool.{cases_lt, cases_eq, cond-true, cond-false, or_left, or_right, or_from, lt-ltb, le-ltb, le-leb, lt-leb, eq-eqb, ne_eqb}
use Rattle.model.specs.Sums.{sum_to, some_of}
use Rattle.model.specs.Jobs.{no_job, job_at, Ordered, span, ceiling, floor, arrives, due}
use Rattle.model.specs.declared.cut.Cut.{Cut}
use Rattle.model.specs.declared.job.Job.{Job}
use Rattle.model.proofs.Sums.{sum_to_cong}
use Rattle.queue.specs.Queues.{standing}
use Rattle.queue.proofs.Order.{standing_fit, limits}
use Rattle.theory.proofs.Shares.{arrivals_climb, deadlines_climb}
use Rattle.theory.proofs.Walls.{ceiling_places, floor_places, sum_to_shorter}
use Rattle.theory.specs.Survey.{cut_of}
use Rattle.theory.specs.Sweep.{mark}
use Rattle.survey.specs.Fronts.{time_of, Before, Both}
use Rattle.survey.specs.declared.front.Front.{Front}
use Rattle.survey.specs.declared.front.Fronts.{Fronts}

-- the times at which a wall counts the jobs do not fall along them
pub times_climb : (up : Bool) (jobs : List Job) → Ordered jobs → (i m : ℕ) → i ≤ m → m < length jobs → time_of up (job_at jobs i) ≤ time_of up (job_at jobs m)
times_climb true = arrivals_climb
times_climb false = deadlines_climb

-- the works of the first jobs are small, and so is their sum
pub work_small : (jobs : List Job) → standing jobs ≡ true → (i : ℕ) → i < length jobs → (job_at jobs i).work ≤ 1000000
work_small jobs e i l = (limits (job_at jobs i) (standing_fit jobs e i l)).small

pub works_small : (jobs : List Job) → standing jobs ≡ true → (i : ℕ) → i ≤ length jobs → sum_to i (λ k. (job_at jobs k).work) ≤ 1000000 * i
unfolding sum_to
works_small jobs e zero l = omega arith
works_small jobs e (suc i) l = let a = works_small jobs e i (omega arith) in let b = work_small jobs e i l in omega arith

-- a job of the rest of the jobs, from one on
pub rest_at :
    (jobs : List Job) (a i : ℕ) → i < length (take (length jobs - a) (drop a jobs))
    → (a + i < length jobs) × (job_at (take (length jobs - a) (drop a jobs)) i ≡ job_at jobs (a + i))
unfolding job_at
rest_at jobs a i l =
    let d = length-drop a jobs in
    let t = take_all (length jobs - a) (drop a jobs) (omega arith) in
    let n = ap (λ (xs : List Job). length xs) t in
    (omega arith, ap (λ (xs : List Job). get_or xs i no_job) t ∙ get_or-drop a jobs i no_job)

-- the height of the ceiling
pub ceiling_is : (jobs : List Job) (t : ℕ) (f : Front) → Before true jobs t f → f.work ≡ ceiling jobs t
ceiling_is jobs t f b =
    let g = λ (i : ℕ). cond (ltb (job_at jobs i).arrival t) (job_at jobs i).work 0 in
    let a = ceiling_places jobs t in
    let s = sum_to_shorter f.count (length jobs) g b.within (λ i x y. cond-false (ltb (job_at jobs i).arrival t) _ _ (le-ltb _ _ (b.ahead i x y))) in
    let e = sum_to_cong f.count g (λ i. (job_at jobs i).work) (λ i x. cond-true (ltb (job_at jobs i).arrival t) _ _ (lt-ltb _ _ (b.past i x))) in
    b.whole ∙ sym (a ∙ (s ∙ e))

-- the height of the floor
pub floor_is : (jobs : List Job) (t : ℕ) (f : Front) → Before false jobs (t + 1) f → f.work ≡ floor jobs t
floor_is jobs t f b =
    let g = λ (i : ℕ). cond (leb (job_at jobs i).deadline t) (job_at jobs i).work 0 in
    let a = floor_places jobs t in
    let s = sum_to_shorter f.count (length jobs) g b.within
    (λ i x y. cond-false (leb (job_at jobs i).deadline t) _ _ (lt-leb _ _ (let h = b.ahead i x y in omega arith))) in
    let e = sum_to_cong f.count g (λ i. (job_at jobs i).work)
    (λ i x. cond-true (leb (job_at jobs i).deadline t) _ _ (le-leb _ _ (let h = b.past i x in omega arith))) in
    b.whole ∙ sym (a ∙ (s ∙ e))

-- a test passes at some element of a list, or at none
some_from : {X : Type 0} (g : X → Bool) (xs : List X) (d : X) (i : ℕ) → i < length xs → g (get_or xs i d) ≡ true → some_of g xs ≡ true
unfolding some_of
some_from g [] d i l e = absurd (omega arith)
some_from g (x ∷ xs) d zero l e = or_left (g x) (some_of g xs) e
some_from g (x ∷ xs) d (suc i) l e = or_right (g x) (some_of g xs) (some_from g xs d i (omega arith) e)

some_none : {X : Type 0} (g : X → Bool) (xs : List X) (d : X) → ((i : ℕ) → i < length xs → g (get_or xs i d) ≡ false) → some_of g xs ≡ false
unfolding some_of
some_none g [] d h = refl
some_none g (x ∷ xs) d h = or_from (g x) (some_of g xs) (h 0 (omega arith)) (some_none g xs d (λ i l. h (suc i) (omega arith)))

-- a wall counts some job at time t exactly where its front goes on
pub met : (up : Bool) (jobs : List Job) (t : ℕ) (f g : Front) → Before up jobs t f → Before up jobs (t + 1) g
    → ltb f.count g.count ≡ some_of (λ j. eqb (time_of up j) t) jobs
unfolding job_at
met up jobs t f g b a =
    let w = a.within in
    elim (cases_lt f.count g.count) [
      | inl l ↦
          let x = b.ahead f.count (omega arith) (omega arith) in
          let y = a.past f.count l in
          lt-ltb _ _ l ∙ sym (some_from (λ j. eqb (time_of up j) t) jobs no_job f.count (omega arith) (eq-eqb _ _ (omega arith)))
      | inr l ↦
          le-ltb _ _ l
          ∙ sym (some_none (λ j. eqb (time_of up j) t) jobs no_job (λ i k. ne_eqb _ _ (λ e. elim (cases_lt i f.count) [
            | inl m ↦ let x = b.past i m in omega arith
            | inr m ↦ let x = a.ahead i (omega arith) k in omega arith
          ])))
    ]

-- the span is the last deadline
span_over : (jobs : List Job) (i : ℕ) → i < length jobs → (job_at jobs i).deadline ≤ span jobs
unfolding span job_at
span_over [] i l = absurd (omega arith)
span_over (j ∷ js) zero l = omega arith
span_over (j ∷ js) (suc i) l = let a = span_over js i (omega arith) in omega arith

span_under : (jobs : List Job) (b : ℕ) → ((i : ℕ) → i < length jobs → (job_at jobs i).deadline ≤ b) → span jobs ≤ b
unfolding span job_at
span_under [] b h = omega arith
span_under (j ∷ js) b h = let a = h 0 (omega arith) in let c = span_under js b (λ i l. h (suc i) (omega arith)) in omega arith

-- standing jobs are due soon
pub span_soon : (jobs : List Job) → standing jobs ≡ true → span jobs ≤ 200000
span_soon jobs e = span_under jobs 200000 (λ i l. (limits (job_at jobs i) (standing_fit jobs e i l)).soon)

-- within the span all jobs are due exactly at its end
ended : (jobs : List Job) (t : ℕ) (g : Front) → Before false jobs (t + 1) g → t ≤ span jobs → eqb g.count (length jobs) ≡ eqb t (span jobs)
ended jobs t g b l =
    let w = b.within in
    elim (cases_eq g.count (length jobs)) [
      | inl e ↦
          let s = span_under jobs t (λ i k. let x = b.past i (omega arith) in omega arith) in
          eq-eqb _ _ e ∙ sym (eq-eqb _ _ (omega arith))
      | inr e ↦
          let n : g.count < length jobs = omega arith in
          let x = b.ahead g.count (omega arith) n in
          let s = span_over jobs g.count n in
          ne_eqb _ _ e ∙ sym (ne_eqb _ _ (λ k. omega arith))
    ]

-- the cut at a time, from the fronts before it and up to it
pub cut_is :
    (jobs : List Job) (t : ℕ) (before after : Fronts) (rises : Bool) → Both jobs t before → Both jobs (t + 1) after → t ≤ span jobs
    → rises ≡ (ltb before.came.count after.came.count || eqb after.due.count (length jobs))
    → ◌≡◌ {A = Cut}
    (record { time = t; upper = before.came.work; lower = after.due.work; rises = rises; falls = ltb before.due.count after.due.count })
    (cut_of jobs t)
unfolding cut_of mark arrives due
cut_is jobs t before after rises b a l e =
    let u = ceiling_is jobs t before.came b.upper in
    let v = floor_is jobs t after.due a.lower in
    let x = met true jobs t before.came after.came b.upper a.upper in
    let y = ended jobs t after.due a.lower l in
    let z = met false jobs t before.due after.due b.lower a.lower in
    cc
