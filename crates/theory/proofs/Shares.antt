-- Grains handed to the jobs in book order: job after job gets what the jobs before it leave.
-- The portions of the first g grains add up to g, up to all work, and a job's share of a tick is the growth of its portion.
-- Book order puts the jobs that have arrived, and those that are due, at the front: so the ceiling bounds what is before a job, and the floor covers it.
use Rattle.std.proofs.Common.{◌≡◌, ℕ, zero, suc, ◌+◌, ◌-◌, ◌*◌, ◌<◌, ◌≤◌, min, cond, ltb, leb, List, length, sym, refl, ap, ◌∙◌, subst, add-zero, add-suc, mul_comm, arith}
use Rattle.std.proofs.lemmas.Bool.{cond-true, cond-false, cond_both, le-ltb, le-leb}
use Rattle.model.specs.Sums.{sum_to}
use Rattle.model.specs.Steps.{unit, speed_at}
use Rattle.model.specs.Jobs.{job_at, Ordered, total, ceiling, floor}
use Rattle.model.specs.Ways.{step_of, grains, before, portion, share}
use Rattle.model.specs.declared.job.Job.{Job}
use Rattle.model.specs.declared.segment.Segment.{Segment}
use Rattle.model.specs.declared.step.Step.{Step}
use Rattle.model.proofs.Sums.{sum_to_cong, sum_to_mono, sum_to_add, sum_to_mul, sum_to_longer}
use Rattle.theory.proofs.Walls.{ceiling_places, floor_places, total_places, sum_to_shorter}

-- a number that does not fall from each place to the next does not fall at all, below a bound
climbs : (f : ℕ → ℕ) (n : ℕ) → ((i : ℕ) → suc i < n → f i ≤ f (suc i)) → (d i : ℕ) → i + d < n → f i ≤ f (i + d)
climbs f n h zero i l = let e = ap f (add-zero i) in omega arith
climbs f n h (suc d) i l =
    let e = add-suc i d in
    let a = climbs f n h d i (omega arith) in
    let b = h (i + d) (omega arith) in
    let c = ap f e in
    omega arith

pub arrivals_climb : (jobs : List Job) → Ordered jobs → (i m : ℕ) → i ≤ m → m < length jobs → (job_at jobs i).arrival ≤ (job_at jobs m).arrival
arrivals_climb jobs o i m l b =
    let e : i + (m - i) ≡ m = omega arith in
    subst (λ (x : ℕ). (job_at jobs i).arrival ≤ (job_at jobs x).arrival) e (climbs (λ x. (job_at jobs x).arrival) (length jobs) o.arrivals (m - i) i (omega arith))

pub deadlines_climb : (jobs : List Job) → Ordered jobs → (i m : ℕ) → i ≤ m → m < length jobs → (job_at jobs i).deadline ≤ (job_at jobs m).deadline
deadlines_climb jobs o i m l b =
    let e : i + (m - i) ≡ m = omega arith in
    subst (λ (x : ℕ). (job_at jobs i).deadline ≤ (job_at jobs x).deadline) e (climbs (λ x. (job_at jobs x).deadline) (length jobs) o.deadlines (m - i) i (omega arith))

-- the grains before a job, in units of work
before_units : (jobs : List Job) (i : ℕ) → before jobs i ≡ unit * sum_to i (λ m. (job_at jobs m).work)
unfolding before
before_units jobs i =
    sum_to_cong i (λ m. (job_at jobs m).work * unit) (λ m. unit * (job_at jobs m).work) (λ m l. mul_comm (job_at jobs m).work unit)
    ∙ sum_to_mul i unit (λ m. (job_at jobs m).work)

pub before_next : (jobs : List Job) (i : ℕ) → before jobs (suc i) ≡ before jobs i + (job_at jobs i).work * unit
unfolding before sum_to
before_next jobs i = refl

pub before_all : (jobs : List Job) → before jobs (length jobs) ≡ unit * total jobs
before_all jobs = let a = before_units jobs (length jobs) in let b = total_places jobs in omega arith

pub before_longer : (jobs : List Job) (i m : ℕ) → i ≤ m → before jobs i ≤ before jobs m
unfolding before
before_longer jobs i m l = sum_to_longer i m (λ x. (job_at jobs x).work * unit) l

-- at a job's arrival the ceiling holds no more than the jobs before it
pub ceiling_before : (jobs : List Job) → Ordered jobs → (i : ℕ) → i < length jobs → unit * ceiling jobs (job_at jobs i).arrival ≤ before jobs i
ceiling_before jobs o i l =
    let t : ℕ = (job_at jobs i).arrival in
    let f = λ (m : ℕ). cond (ltb (job_at jobs m).arrival t) (job_at jobs m).work 0 in
    let a : ceiling jobs t ≡ sum_to (length jobs) f = ceiling_places jobs t in
    let b : sum_to (length jobs) f ≡ sum_to i f = sum_to_shorter i (length jobs) f (omega arith)
    (λ m x y. cond-false (ltb (job_at jobs m).arrival t) _ _ (le-ltb _ _ (arrivals_climb jobs o i m x y))) in
    let c : sum_to i f ≤ sum_to i (λ m. (job_at jobs m).work) = sum_to_mono i f (λ m. (job_at jobs m).work)
    (λ m x. cond_both (ltb (job_at jobs m).arrival t) (job_at jobs m).work 0 (λ y. y ≤ (job_at jobs m).work) (λ e. omega arith) (λ e. omega arith)) in
    let e = before_units jobs i in
    omega arith

-- at a job's deadline the floor holds it and the jobs before it
pub before_floor : (jobs : List Job) → Ordered jobs → (i : ℕ) → i < length jobs → before jobs (suc i) ≤ unit * floor jobs (job_at jobs i).deadline
before_floor jobs o i l =
    let t : ℕ = (job_at jobs i).deadline in
    let f = λ (m : ℕ). cond (leb (job_at jobs m).deadline t) (job_at jobs m).work 0 in
    let a : floor jobs t ≡ sum_to (length jobs) f = floor_places jobs t in
    let b : sum_to (suc i) f ≤ sum_to (length jobs) f = sum_to_longer (suc i) (length jobs) f l in
    let c : sum_to (suc i) (λ m. (job_at jobs m).work) ≡ sum_to (suc i) f = sum_to_cong (suc i) (λ m. (job_at jobs m).work) f
    (λ m x. sym (cond-true (leb (job_at jobs m).deadline t) (job_at jobs m).work 0 (le-leb _ _ (deadlines_climb jobs o m i (omega arith) l)))) in
    let e = before_units jobs (suc i) in
    omega arith

-- the portions of the first g grains add up to g, up to all work
pub portions_add : (jobs : List Job) (g n : ℕ) → sum_to n (λ i. portion jobs i g) ≡ min g (before jobs n)
unfolding sum_to portion before
portions_add jobs g zero = omega arith
portions_add jobs g (suc n) = let a = portions_add jobs g n in omega arith

pub portion_none : (jobs : List Job) (i g : ℕ) → g ≤ before jobs i → portion jobs i g ≡ 0
unfolding portion
portion_none jobs i g l = omega arith

pub portion_all : (jobs : List Job) (i g : ℕ) → before jobs (suc i) ≤ g → portion jobs i g ≡ (job_at jobs i).work * unit
unfolding portion
portion_all jobs i g l = let a = before_next jobs i in omega arith

portion_grows : (jobs : List Job) (i a b : ℕ) → a ≤ b → portion jobs i a ≤ portion jobs i b
unfolding portion
portion_grows jobs i a b l = omega arith

module _ (steps : List Step) (jobs : List Job) (ss : List Segment) where
  grains_none : grains steps ss 0 ≡ 0
  unfolding grains sum_to
  grains_none = refl

  pub grains_next : (n : ℕ) → grains steps ss (suc n) ≡ grains steps ss n + speed_at steps (step_of ss n)
  unfolding grains sum_to
  grains_next n = refl

  pub grains_longer : (m n : ℕ) → m ≤ n → grains steps ss m ≤ grains steps ss n
  unfolding grains
  grains_longer m n l = sum_to_longer m n (λ x. speed_at steps (step_of ss x)) l

  -- a share is what a portion grows by
  share_grows : (i n : ℕ) → share steps jobs ss i n + portion jobs i (grains steps ss n) ≡ portion jobs i (grains steps ss (suc n))
  unfolding share
  share_grows i n = let a = portion_grows jobs i (grains steps ss n) (grains steps ss (suc n)) (grains_longer n (suc n) (omega arith)) in omega arith

  -- over the first n ticks a job's shares are its portion
  pub shares_portion : (i n : ℕ) → sum_to n (share steps jobs ss i) ≡ portion jobs i (grains steps ss n)
  unfolding sum_to
  shares_portion i zero = sym (portion_none jobs i (grains steps ss 0) (let z = grains_none in omega arith))
  shares_portion i (suc n) = let a = shares_portion i n in let b = share_grows i n in omega arith

  -- the shares of one tick are together no more than its speed
  pub shares_speed : (n : ℕ) → sum_to (length jobs) (λ i. share steps jobs ss i n) ≤ speed_at steps (step_of ss n)
  shares_speed n =
      let a = sum_to_add (length jobs) (λ i. share steps jobs ss i n) (λ i. portion jobs i (grains steps ss n)) in
      let b = sum_to_cong (length jobs) (λ i. share steps jobs ss i n + portion jobs i (grains steps ss n)) (λ i. portion jobs i (grains steps ss (suc n))) (λ i l. share_grows i n) in
      let c = portions_add jobs (grains steps ss n) (length jobs) in
      let e = portions_add jobs (grains steps ss (suc n)) (length jobs) in
      let f = grains_next n in
      omega arith
