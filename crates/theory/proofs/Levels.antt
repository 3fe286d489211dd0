-- The two walls: they never fall, the floor is never above the ceiling, both end at the total,
-- and each changes only at its own times: the ceiling just after an arrival, the floor at a deadline.
use Rattle.std.proofs.Common.{◌≡◌, ℕ, suc, ◌<◌, ◌≤◌, max, Bool, true, false, cond, eqb, ltb, leb, List, [], ◌∷◌, length, get_or, sym, refl, subst, inl, inr, arith}
use Rattle.std.proofs.lemmas.Bool.{cases_lt, cond-true, cond-false, lt-ltb, le-ltb, le-leb, ltb-true, leb-true, eqb-false, eq-eqb, or_parts, or_left, or_right}
use Rattle.model.specs.Sums.{sum_of, some_of}
use Rattle.model.specs.Jobs.{Ordered, job_at, no_job, total, span, ceiling, floor, arrives, due}
use Rattle.model.specs.declared.job.Job.{Job}

-- the sum of f over a list is at most that of g, where each term is
pub sum_of_mono : {X : Type 0} (f g : X → ℕ) (xs : List X) → ((x : X) → f x ≤ g x) → sum_of f xs ≤ sum_of g xs
unfolding sum_of
sum_of_mono f g [] h = omega arith
sum_of_mono f g (x ∷ xs) h = let a = h x in let b = sum_of_mono f g xs h in omega arith

-- a part of a job's work that a test lets through
part_le : (b : Bool) (w : ℕ) → cond b w 0 ≤ w
part_le true w = omega arith
part_le false w = omega arith

part_mono : (a b : Bool) (w : ℕ) → (a ≡ true → b ≡ true) → cond a w 0 ≤ cond b w 0
part_mono true b w h = rw (h refl) (omega arith)
part_mono false b w h = omega arith

part_same : (a b : Bool) (w : ℕ) → (a ≡ true → b ≡ true) → (b ≡ true → a ≡ true) → cond a w 0 ≡ cond b w 0
part_same a b w f g = let x = part_mono a b w f in let y = part_mono b a w g in omega arith

pub floor_le_total : (jobs : List Job) (t : ℕ) → floor jobs t ≤ total jobs
unfolding floor total
floor_le_total jobs t = sum_of_mono _ _ jobs (λ j. part_le (leb j.deadline t) j.work)

pub ceiling_le_total : (jobs : List Job) (t : ℕ) → ceiling jobs t ≤ total jobs
unfolding ceiling total
ceiling_le_total jobs t = sum_of_mono _ _ jobs (λ j. part_le (ltb j.arrival t) j.work)

pub floor_mono : (jobs : List Job) (s t : ℕ) → s ≤ t → floor jobs s ≤ floor jobs t
unfolding floor
floor_mono jobs s t l = sum_of_mono _ _ jobs (λ j. part_mono _ _ j.work (λ e. let a = leb-true _ _ e in le-leb _ _ (omega arith)))

pub ceiling_mono : (jobs : List Job) (s t : ℕ) → s ≤ t → ceiling jobs s ≤ ceiling jobs t
unfolding ceiling
ceiling_mono jobs s t l = sum_of_mono _ _ jobs (λ j. part_mono _ _ j.work (λ e. let a = ltb-true _ _ e in lt-ltb _ _ (omega arith)))

-- where no job is due the floor stays, and where none arrives the ceiling stays
pub floor_flat : (jobs : List Job) (t : ℕ) → due jobs (suc t) ≡ false → floor jobs (suc t) ≡ floor jobs t
unfolding floor due sum_of some_of
floor_flat [] t e = refl
floor_flat (j ∷ js) t e =
    let (a, b) = or_parts (eqb j.deadline (suc t)) (due js (suc t)) e in
    let n = eqb-false j.deadline (suc t) a in
    let x = part_same (leb j.deadline (suc t)) (leb j.deadline t) j.work (λ f. let g = leb-true _ _ f in le-leb _ _ (omega arith)) (λ f. let g = leb-true _ _ f in le-leb _ _ (omega arith)) in
    let y = floor_flat js t b in
    omega arith

pub ceiling_flat : (jobs : List Job) (t : ℕ) → arrives jobs t ≡ false → ceiling jobs (suc t) ≡ ceiling jobs t
unfolding ceiling arrives sum_of some_of
ceiling_flat [] t e = refl
ceiling_flat (j ∷ js) t e =
    let (a, b) = or_parts (eqb j.arrival t) (arrives js t) e in
    let n = eqb-false j.arrival t a in
    let x = part_same (ltb j.arrival (suc t)) (ltb j.arrival t) j.work (λ f. let g = ltb-true _ _ f in lt-ltb _ _ (omega arith)) (λ f. let g = ltb-true _ _ f in lt-ltb _ _ (omega arith)) in
    let y = ceiling_flat js t b in
    omega arith

-- each job has time
abbrev pub Timely : List Job → Type 0
Timely [] = Unit
Timely (j ∷ js) = (j.arrival < j.deadline) × Timely js

pub timely_from : (jobs : List Job) → Ordered jobs → Timely jobs
unfolding job_at
timely_from jobs o = go jobs (λ i l. o.timely i l)
  where
    go : (js : List Job) → ((i : ℕ) → i < length js → (get_or js i no_job).arrival < (get_or js i no_job).deadline) → Timely js
    go [] h = tt
    go (j ∷ js) h = (h 0 (omega arith), go js (λ i l. h (suc i) (omega arith)))

pub floor_le_ceiling : (jobs : List Job) (t : ℕ) → Timely jobs → floor jobs t ≤ ceiling jobs t
unfolding floor ceiling sum_of
floor_le_ceiling [] t h = omega arith
floor_le_ceiling (j ∷ js) t (l, h) =
    let a = part_mono (leb j.deadline t) (ltb j.arrival t) j.work (λ f. let g = leb-true _ _ f in lt-ltb _ _ (omega arith)) in
    let b = floor_le_ceiling js t h in
    omega arith

-- the end of both
pub floor_last : (jobs : List Job) (t : ℕ) → span jobs ≤ t → floor jobs t ≡ total jobs
unfolding floor total span sum_of
floor_last [] t l = refl
floor_last (j ∷ js) t l =
    let a = cond-true (leb j.deadline t) j.work 0 (le-leb _ _ (omega arith)) in
    let b = floor_last js t (omega arith) in
    omega arith

pub ceiling_last : (jobs : List Job) → Timely jobs → ceiling jobs (span jobs) ≡ total jobs
ceiling_last jobs h =
    let a = floor_le_ceiling jobs (span jobs) h in
    let b = floor_last jobs (span jobs) (omega arith) in
    let c = ceiling_le_total jobs (span jobs) in
    omega arith

pub ceiling_first : (jobs : List Job) → ceiling jobs 0 ≡ 0
unfolding ceiling sum_of
ceiling_first [] = refl
ceiling_first (j ∷ js) =
    let a = cond-false (ltb j.arrival 0) j.work 0 (le-ltb _ _ (omega arith)) in
    let b = ceiling_first js in
    omega arith

-- at the end the last jobs are due
pub due_at_span : (jobs : List Job) → 0 < span jobs → due jobs (span jobs) ≡ true
unfolding due span some_of
due_at_span [] l = absurd (omega arith)
due_at_span (j ∷ js) l =
    elim (cases_lt j.deadline (span js)) [
      | inl m ↦
          let e : max j.deadline (span js) ≡ span js = omega arith in
          or_right _ _ (subst (λ (x : ℕ). some_of (λ i. eqb i.deadline x) js ≡ true) (sym e) (due_at_span js (omega arith)))
      | inr m ↦
          let e : j.deadline ≡ max j.deadline (span js) = omega arith in
          or_left _ _ (eq-eqb _ _ e)
    ]
