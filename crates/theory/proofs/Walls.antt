-- Any way of running the jobs is held by the two walls: by time t it has done no more than the ceiling allows and no less than the floor asks.
-- What it has done by then is a double sum, over parts and over jobs; job by job the bounds are the rules of a way.
use Rattle.std.proofs.Common.{◌≡◌, ℕ, zero, suc, ◌+◌, ◌-◌, ◌*◌, ◌<◌, ◌≤◌, cond, ltb, leb, List, [], ◌∷◌, length, get_or, sym, refl, ap, ◌∙◌, inl, inr, mul-le-mul_right, mul_assoc, mul_comm, mul-zero, arith}
use Rattle.std.proofs.lemmas.Bool.{cond-true, cond-false, cases_lt, lt-ltb, le-leb, lt-leb}
use Rattle.model.specs.Sums.{sum_to, sum_of}
use Rattle.model.specs.Steps.{unit}
use Rattle.model.specs.Jobs.{job_at, no_job, total, span, ceiling, floor}
use Rattle.model.specs.Ways.{Way, parts}
use Rattle.model.specs.declared.job.Job.{Job}
use Rattle.model.specs.declared.step.Step.{Step}
use Rattle.model.proofs.Sums.{sum_to_cong, sum_to_mono, sum_to_mul, sum_to_split, sum_to_none, sum_to_swap, sum_to_longer}

-- the first term taken off a sum
pub sum_to_first : (n : ℕ) (f : ℕ → ℕ) → sum_to (suc n) f ≡ f 0 + sum_to n (λ i. f (suc i))
unfolding sum_to
sum_to_first zero f = omega arith
sum_to_first (suc n) f = let a = sum_to_first n f in omega arith

-- a sum over a list is a sum over its places
pub sum_of_places : {X : Type 0} (f : X → ℕ) (xs : List X) (d : X) → sum_of f xs ≡ sum_to (length xs) (λ i. f (get_or xs i d))
unfolding sum_of sum_to
sum_of_places f [] d = refl
sum_of_places f (x ∷ xs) d =
    let a = sum_of_places f xs d in
    let b = sum_to_first (length xs) (λ i. f (get_or (x ∷ xs) i d)) in
    omega arith

-- the walls and the total, job by job
pub ceiling_places : (jobs : List Job) (t : ℕ) → ceiling jobs t ≡ sum_to (length jobs) (λ i. cond (ltb (job_at jobs i).arrival t) (job_at jobs i).work 0)
unfolding ceiling job_at
ceiling_places jobs t = sum_of_places (λ (j : Job). cond (ltb j.arrival t) j.work 0) jobs no_job

pub floor_places : (jobs : List Job) (t : ℕ) → floor jobs t ≡ sum_to (length jobs) (λ i. cond (leb (job_at jobs i).deadline t) (job_at jobs i).work 0)
unfolding floor job_at
floor_places jobs t = sum_of_places (λ (j : Job). cond (leb j.deadline t) j.work 0) jobs no_job

pub total_places : (jobs : List Job) → total jobs ≡ sum_to (length jobs) (λ i. (job_at jobs i).work)
unfolding total job_at
total_places jobs = sum_of_places (λ (j : Job). j.work) jobs no_job

-- terms that are nothing from m on leave the sum to m
pub sum_to_shorter : (m n : ℕ) (f : ℕ → ℕ) → m ≤ n → ((i : ℕ) → m ≤ i → i < n → f i ≡ 0) → sum_to n f ≡ sum_to m f
sum_to_shorter m n f l h =
    let e : m + (n - m) ≡ n = omega arith in
    let s = sum_to_split m (n - m) f in
    let k : sum_to (m + (n - m)) f ≡ sum_to n f = ap (λ (x : ℕ). sum_to x f) e in
    let z = sum_to_none (n - m) (λ i. f (m + i)) (λ i b. h (m + i) (omega arith) (omega arith)) in
    omega arith

-- the fine grains that all jobs get in a part, and those done by time t
abbrev pub part_grains : List Job → (ℕ → ℕ → ℕ) → ℕ → ℕ
part_grains jobs give p = sum_to (length jobs) (λ i. give i p)

abbrev pub way_done : List Job → ℕ → (ℕ → ℕ → ℕ) → ℕ → ℕ
way_done jobs k give t = sum_to (t * unit * k) (part_grains jobs give)

module _ (steps : List Step) (jobs : List Job) (k : ℕ) (pick : ℕ → ℕ) (give : ℕ → ℕ → ℕ) (w : Way steps jobs k pick give) where
  -- the same, job by job
  by_job : (t : ℕ) → way_done jobs k give t ≡ sum_to (length jobs) (λ i. sum_to (t * unit * k) (λ p. give i p))
  by_job t = sum_to_swap (t * unit * k) (length jobs) (λ p i. give i p)

  in_span : (t : ℕ) → t ≤ span jobs → t * unit * k ≤ parts jobs k
  unfolding parts
  in_span t l = mul-le-mul_right k (mul-le-mul_right unit l)

  work_form : (x : ℕ) → x * unit * k ≡ k * unit * x
  work_form x = mul_comm (x * unit) k ∙ (ap (λ (y : ℕ). k * y) (mul_comm x unit) ∙ sym (mul_assoc k unit x))

  -- no job has more by time t than its work, and none if it has not arrived
  under_one : (t : ℕ) → t ≤ span jobs → (i : ℕ) → i < length jobs
      → sum_to (t * unit * k) (λ p. give i p) ≤ k * unit * cond (ltb (job_at jobs i).arrival t) (job_at jobs i).work 0
  under_one t l i b =
      elim (cases_lt (job_at jobs i).arrival t) [
        | inl a ↦
            let c = cond-true (ltb (job_at jobs i).arrival t) (job_at jobs i).work 0 (lt-ltb _ _ a) in
            rw c (
            let m = sum_to_longer (t * unit * k) (parts jobs k) (give i) (in_span t l) in
            let e = w.whole i b in
            let f = work_form (job_at jobs i).work in
            omega arith)
        | inr a ↦
            let z : sum_to (t * unit * k) (give i) ≡ 0 = sum_to_none (t * unit * k) (give i) (λ p q. w.early i p b (let s = in_span t l in omega arith) (let s = mul-le-mul_right k (mul-le-mul_right unit a) in omega arith)) in
            omega arith
      ]

  pub way_under : (t : ℕ) → t ≤ span jobs → way_done jobs k give t ≤ k * unit * ceiling jobs t
  way_under t l =
      let a = by_job t in
      let b = sum_to_mono (length jobs) (λ i. sum_to (t * unit * k) (λ p. give i p)) (λ i. k * unit * cond (ltb (job_at jobs i).arrival t) (job_at jobs i).work 0) (under_one t l) in
      let c = sum_to_mul (length jobs) (k * unit) (λ i. cond (ltb (job_at jobs i).arrival t) (job_at jobs i).work 0) in
      let d = ap (λ (x : ℕ). k * unit * x) (ceiling_places jobs t) in
      omega arith

  -- a job that is due by time t has all its work by then
  over_one : (t : ℕ) → t ≤ span jobs → (i : ℕ) → i < length jobs
      → k * unit * cond (leb (job_at jobs i).deadline t) (job_at jobs i).work 0 ≤ sum_to (t * unit * k) (λ p. give i p)
  over_one t l i b =
      elim (cases_lt t (job_at jobs i).deadline) [
        | inl a ↦
            let c = cond-false (leb (job_at jobs i).deadline t) (job_at jobs i).work 0 (lt-leb _ _ a) in
            rw c (let z = mul-zero (k * unit) in omega arith)
        | inr a ↦
            let c = cond-true (leb (job_at jobs i).deadline t) (job_at jobs i).work 0 (le-leb _ _ a) in
            rw c (
            let m = sum_to_shorter (t * unit * k) (parts jobs k) (give i) (in_span t l) (λ p q r. w.late i p b r (let s = mul-le-mul_right k (mul-le-mul_right unit a) in omega arith)) in
            let e = w.whole i b in
            let f = work_form (job_at jobs i).work in
            omega arith)
      ]

  pub way_over : (t : ℕ) → t ≤ span jobs → k * unit * floor jobs t ≤ way_done jobs k give t
  way_over t l =
      let a = by_job t in
      let b = sum_to_mono (length jobs) (λ i. k * unit * cond (leb (job_at jobs i).deadline t) (job_at jobs i).work 0) (λ i. sum_to (t * unit * k) (λ p. give i p)) (over_one t l) in
      let c = sum_to_mul (length jobs) (k * unit) (λ i. cond (leb (job_at jobs i).deadline t) (job_at jobs i).work 0) in
      let d = ap (λ (x : ℕ). k * unit * x) (floor_places jobs t) in
      omega arith

  -- at the end of the span all work is done
  pub way_total : way_done jobs k give (span jobs) ≡ k * unit * total jobs
  unfolding parts
  way_total =
      let a = by_job (span jobs) in
      let b = sum_to_cong (length jobs) (λ i. sum_to (span jobs * unit * k) (λ p. give i p)) (λ i. k * unit * (job_at jobs i).work) (λ i l. w.whole i l ∙ work_form (job_at jobs i).work) in
      let c = sum_to_mul (length jobs) (k * unit) (λ i. (job_at jobs i).work) in
      let d = ap (λ (x : ℕ). k * unit * x) (total_places jobs) in
      omega arith
