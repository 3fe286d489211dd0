-- Where no run of jobs is overfull, no piece of a path is steeper than the top speed.
-- From a time x to a time y the floor at y is at most top speed × (y − x) above the ceiling at x, for what is above it is the work of a run of jobs between the two.
-- A piece that is too steep begins on the ceiling, at the start or where the slope rises; from there on the path stays above the line of top speed
-- until the slope falls or the path ends, and then it is on the floor.
use Rattle.std.proofs.Common.{◌≡◌, ℕ, zero, suc, ◌+◌, ◌-◌, ◌*◌, ◌<◌, ◌≤◌, true, false, cond, ltb, leb, ◌⊎◌, List, [], ◌∷◌, length, sym, refl, ap, ◌∙◌, inl, inr, mul-le-mul_right, lt_of_mul-lt-mul_right, mul-le-mul_left, mul-lt-mul_of_pos_right, mul-zero, mul-add, mul_right_comm, arith}
use Rattle.std.proofs.lemmas.Bool.{cond-true, cond-false, cond_both, cases_lt, ltb-true, ltb-false, lt-ltb, le-ltb, lt-leb, le-leb}
use Rattle.model.specs.Sums.{sum_to, sum_of}
use Rattle.model.specs.Steps.{top_speed, Lawful}
use Rattle.model.specs.Jobs.{job_at, Ordered, total, span, ceiling, floor}
use Rattle.model.specs.Path.{start, run, rise}
use Rattle.model.specs.Speed.{load, overfull, starved, wanting, want}
use Rattle.model.specs.declared.job.Job.{Job}
use Rattle.model.specs.declared.point.Point.{Point}
use Rattle.model.specs.declared.step.Step.{Step}
use Rattle.model.proofs.First.{first_le, first_none, first_found}
use Rattle.model.proofs.Sums.{sum_to_mono, sum_to_split, sum_to_longer, any_at, any_none}
use Rattle.theory.proofs.Law.{Straight, Kept}
use Rattle.theory.proofs.Walls.{ceiling_places, floor_places}
use Rattle.theory.proofs.Drawn.{Gentle, kept_before_end}

-- a sum is its first i terms and the rest
pub sum_to_from : (i n : ℕ) (f : ℕ → ℕ) → i ≤ n → sum_to i f + sum_to (n - i) (λ m. f (i + m)) ≡ sum_to n f
sum_to_from i n f l =
    let e : i + (n - i) ≡ n = omega arith in
    sym (sum_to_split i (n - i) f) ∙ ap (λ (x : ℕ). sum_to x f) e

-- the work of the first i jobs
abbrev work_before : List Job → ℕ → ℕ
work_before jobs i = sum_to i (λ m. (job_at jobs m).work)

-- with the work of a run it is the work up to the run's end
load_between : (jobs : List Job) (i j : ℕ) → i ≤ j → work_before jobs i + load jobs i j ≡ work_before jobs (suc j)
unfolding load
load_between jobs i j l = sum_to_from i (suc j) (λ m. (job_at jobs m).work) (omega arith)

-- what want of speed says: none of the runs is overfull, or one is
pub want_none : (steps : List Step) (jobs : List Job) → want steps jobs ≡ false
    → (i j : ℕ) → i ≤ j → j < length jobs → load jobs i j ≤ top_speed steps * ((job_at jobs j).deadline - (job_at jobs i).arrival)
unfolding want wanting starved overfull
want_none steps jobs e i j l b =
    let a = ltb-false _ _ e in
    let f = first_le (length jobs) (starved steps jobs) in
    let s : starved steps jobs j ≡ false = first_none (length jobs) (starved steps jobs) (omega arith) j b in
    ltb-false _ _ (any_none (suc j) (λ x. overfull steps jobs x j) s i (omega arith))

pub want_some : (steps : List Step) (jobs : List Job) → want steps jobs ≡ true
    → (i : ℕ) × (j : ℕ) × (i ≤ j) × (j < length jobs) × (top_speed steps * ((job_at jobs j).deadline - (job_at jobs i).arrival) < load jobs i j)
unfolding want wanting starved overfull
want_some steps jobs e =
    let b = ltb-true _ _ e in
    let s : starved steps jobs (wanting steps jobs) ≡ true = first_found (length jobs) (starved steps jobs) b in
    let (i, l, o) = any_at (suc (wanting steps jobs)) (λ x. overfull steps jobs x (wanting steps jobs)) s in
    (i, wanting steps jobs, omega arith, b, ltb-true _ _ o)

module _ (steps : List Step) (jobs : List Job) (none : want steps jobs ≡ false) where
  -- what a job adds to the ceiling at x, and to the floor at y
  abbrev upper : ℕ → ℕ → ℕ
  upper x m = cond (ltb (job_at jobs m).arrival x) (job_at jobs m).work 0

  abbrev lower : ℕ → ℕ → ℕ
  lower y m = cond (leb (job_at jobs m).deadline y) (job_at jobs m).work 0

  -- among the first k jobs all arrive before x, or one is the first that does not
  first_late : (x k : ℕ) → (work_before jobs k ≡ sum_to k (upper x)) ⊎ ((i : ℕ) × (i < k) × (x ≤ (job_at jobs i).arrival) × (work_before jobs i ≡ sum_to i (upper x)))
  unfolding sum_to
  first_late x zero = inl refl
  first_late x (suc k) =
      elim (first_late x k) [
        | inl e ↦ elim (cases_lt (job_at jobs k).arrival x) [
          | inl l ↦ let c = cond-true (ltb (job_at jobs k).arrival x) (job_at jobs k).work 0 (lt-ltb _ _ l) in inl (omega arith)
          | inr l ↦ inr (k, omega arith, l, e)
        ]
        | inr (i, l, a, e) ↦ inr (i, omega arith, a, e)
      ]

  -- the jobs up to one that is due by y
  due_by : (x y j : ℕ) → j < length jobs → (job_at jobs j).deadline ≤ y → work_before jobs (suc j) ≤ ceiling jobs x + top_speed steps * (y - x)
  due_by x y j b d =
      let c = ceiling_places jobs x in
      elim (first_late x (suc j)) [
        | inl e ↦ let s = sum_to_longer (suc j) (length jobs) (upper x) b in omega arith
        | inr (i, l, a, e) ↦
            let s = sum_to_longer i (length jobs) (upper x) (omega arith) in
            let k = load_between jobs i j (omega arith) in
            let w = want_none steps jobs none i j (omega arith) b in
            let m = mul-le-mul_left (top_speed steps) (let n : (job_at jobs j).deadline - (job_at jobs i).arrival ≤ y - x = omega arith in n) in
            omega arith
      ]

  floor_part : (x y n : ℕ) → n ≤ length jobs → sum_to n (lower y) ≤ ceiling jobs x + top_speed steps * (y - x)
  unfolding sum_to
  floor_part x y zero l = omega arith
  floor_part x y (suc n) l =
      elim (cases_lt y (job_at jobs n).deadline) [
        | inl k ↦
            let c = cond-false (leb (job_at jobs n).deadline y) (job_at jobs n).work 0 (lt-leb _ _ k) in
            let a = floor_part x y n (omega arith) in
            omega arith
        | inr k ↦
            let a = sum_to_mono (suc n) (lower y) (λ m. (job_at jobs m).work)
            (λ m b. cond_both (leb (job_at jobs m).deadline y) (job_at jobs m).work 0 (λ z. z ≤ (job_at jobs m).work) (λ e. omega arith) (λ e. omega arith)) in
            let b = due_by x y n l k in
            omega arith
      ]

  -- from x to y no more is asked than the top speed does
  pub floor_over_ceiling : (x y : ℕ) → floor jobs y ≤ ceiling jobs x + top_speed steps * (y - x)
  floor_over_ceiling x y = let a = floor_part x y (length jobs) (omega arith) in let b = floor_places jobs y in omega arith

-- nothing is let in at time 0, and everything is asked by the end
pub ceiling_start : (jobs : List Job) → ceiling jobs 0 ≡ 0
unfolding ceiling sum_of
ceiling_start [] = refl
ceiling_start (j ∷ js) =
    let c = cond-false (ltb j.arrival 0) j.work 0 (le-ltb _ _ (omega arith)) in
    let a = ceiling_start js in
    omega arith

pub floor_late : (jobs : List Job) (t : ℕ) → span jobs ≤ t → floor jobs t ≡ total jobs
unfolding floor total span sum_of
floor_late [] t l = refl
floor_late (j ∷ js) t l =
    let c = cond-true (leb j.deadline t) j.work 0 (le-leb _ _ (omega arith)) in
    let a = floor_late js t (omega arith) in
    omega arith

-- a/x above v, and b/y no less than a/x: b/y is above v
still_steep : (v a x b y : ℕ) → 0 < y → v * x < a → a * y ≤ b * x → v * y < b
still_steep v a x b y y0 l k =
    lt_of_mul-lt-mul_right x {m = v * y} {n = b} (
    let m = mul-lt-mul_of_pos_right l y0 in
    let e = mul_right_comm v x y in
    omega arith)

-- a/x at most v, and b/y above v: a/x is below b/y
grows_steep : (v a x b y : ℕ) → 0 < x → a ≤ v * x → v * y < b → a * y < b * x
grows_steep v a x b y x0 l k =
    let m = mul-le-mul_right y l in
    let n = mul-lt-mul_of_pos_right k x0 in
    let e = mul_right_comm v x y in
    omega arith

module _ (steps : List Step) (jobs : List Job) (none : want steps jobs ≡ false) where
  -- a first piece has a run
  first_run : (p q : Point) (qs : List Point) → Kept jobs p (q ∷ qs) → 0 < run p q
  unfolding run
  first_run p q qs k = let o = (kept_before_end jobs p q qs k).0 in omega arith

  -- from a point on the ceiling no path comes to the floor above the line of top speed
  not_above : (a q : Point) → a.height ≡ ceiling jobs a.time → q.height ≡ floor jobs q.time → a.height + top_speed steps * (q.time - a.time) < q.height → ⊥
  not_above a q e f l = let k = floor_over_ceiling steps jobs none a.time q.time in omega arith

  -- one steep piece more
  above_line : (a p q : Point) → Straight jobs p q → a.time ≤ p.time → a.height + top_speed steps * (p.time - a.time) ≤ p.height → top_speed steps * run p q < rise p q
      → a.height + top_speed steps * (q.time - a.time) < q.height
  unfolding run rise
  above_line a p q s b l k =
      let o = s.onward in
      let e : p.time - a.time + (q.time - p.time) ≡ q.time - a.time = omega arith in
      let m = mul-add (top_speed steps) (p.time - a.time) (q.time - p.time) in
      let n = ap (λ (x : ℕ). top_speed steps * x) e in
      omega arith

  -- a path above the line of top speed from a, on a piece that is too steep, cannot go on
  no_steep : (a p q : Point) (qs : List Point) → a.height ≡ ceiling jobs a.time → a.time ≤ p.time → a.height + top_speed steps * (p.time - a.time) ≤ p.height
      → top_speed steps * run p q < rise p q → Kept jobs p (q ∷ qs) → ⊥
  no_steep a p q [] e b l k (s, t, h) =
      let f = floor_late jobs q.time (omega arith) in
      not_above a q e (omega arith) (above_line a p q s b l k)
  no_steep a p q (r ∷ rs) e b l k (s, t, rest) =
      let g = above_line a p q s b l k in
      elim (cases_lt (rise q r * run p q) (rise p q * run q r)) [
        | inl m ↦ not_above a q e (t.falling m).1 g
        | inr m ↦
            let o = s.onward in
            no_steep a q r rs e (omega arith) (omega arith) (still_steep (top_speed steps) (rise p q) (run p q) (rise q r) (run q r) (first_run q r rs rest) k m) rest
      ]

  -- a first piece that would begin on the ceiling if it were too steep is not
  first_gentle : (p q : Point) (qs : List Point) → Kept jobs p (q ∷ qs) → (top_speed steps * run p q < rise p q → p.height ≡ ceiling jobs p.time) → rise p q ≤ top_speed steps * run p q
  first_gentle p q qs k on =
      elim (cases_lt (top_speed steps * run p q) (rise p q)) [
        | inl l ↦
            let z : top_speed steps * (p.time - p.time) ≡ 0 = ap (λ (x : ℕ). top_speed steps * x) (let e : p.time - p.time ≡ 0 = omega arith in e) ∙ mul-zero (top_speed steps) in
            absurd (no_steep p p q qs (on l) (omega arith) (omega arith) l k)
        | inr l ↦ l
      ]

  -- and then none is: where the next is too steep, the slope rises
  gentle_from : (p q : Point) (qs : List Point) → Kept jobs p (q ∷ qs) → (top_speed steps * run p q < rise p q → p.height ≡ ceiling jobs p.time) → Gentle steps p (q ∷ qs)
  gentle_from p q [] k on = (first_gentle p q [] k on, tt)
  gentle_from p q (r ∷ rs) k on =
      let g = first_gentle p q (r ∷ rs) k on in
      (g, gentle_from q r rs k.2 (λ l. (k.1.rising (grows_steep (top_speed steps) (rise p q) (run p q) (rise q r) (run q r) (first_run p q (r ∷ rs) k) g l)).1))

-- without want of speed no piece of a path is steeper than the top speed
pub gentle_path : (steps : List Step) (jobs : List Job) (c : List Point) → Lawful steps → Ordered jobs → Kept jobs start c → want steps jobs ≡ false → Gentle steps start c
gentle_path steps jobs [] lawful o k none = tt
gentle_path steps jobs (q ∷ qs) lawful o k none = gentle_from steps jobs none start q qs k (λ l. let e = ceiling_start jobs in omega arith)
