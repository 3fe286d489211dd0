-- The drawn plan serves the jobs: its ticks fill the span, its grains are all the work, and handed out in book order they reach each job in its time.
-- By each cut the plan has done what is read off the path there, so at an arrival no more than the ceiling, at a deadline no less than the floor.
use Rattle.std.proofs.Common.{◌≡◌, ℕ, suc, ◌+◌, ◌-◌, ◌*◌, ◌<◌, ◌≤◌, List, [], ◌∷◌, length, sym, refl, ap, ◌∙◌, subst, inl, inr, mul_comm, add-mul, mul-one, mul-add, arith}
use Rattle.std.proofs.lemmas.Bool.{cases_lt}
use Rattle.model.specs.Sums.{sum_to, sum_of}
use Rattle.model.specs.Steps.{unit, speed_at, power_at, gap}
use Rattle.model.specs.Jobs.{job_at, total, span, cuts}
use Rattle.model.specs.Plan.{segment, stretch, stretches, joined, ticks_between, ticks_of, energy}
use Rattle.model.specs.Ways.{Way, parts, way_energy, step_of, grains, share, Serves, Least}
use Rattle.model.specs.declared.job.Job.{Job}
use Rattle.model.specs.declared.point.Point.{Point}
use Rattle.model.specs.declared.segment.Segment.{Segment}
use Rattle.model.specs.declared.step.Step.{Step}
use Rattle.model.proofs.Sums.{sum_to_cong}
use Rattle.theory.proofs.Cuts.{Among, arrival_cut, deadline_cut, span_cut, cut_in_span}
use Rattle.theory.proofs.Tangent.{next_speed}
use Rattle.theory.proofs.Runs.{step_first, step_rest, step_joined, ticks_joined, over_first, over_all}
use Rattle.theory.proofs.Drawn.{Drawable, drawn}
use Rattle.theory.proofs.Course.{slow_at, done_by, fast_at, Leg, Course, slow_at_known, done_walls, course, done_start, done_end}
use Rattle.theory.proofs.Shares.{before_all, before_longer, ceiling_before, before_floor, portion_none, portion_all, grains_longer, shares_portion, shares_speed}
use Rattle.theory.proofs.Least.{plan_unbeaten}

-- the stretches, one leg taken off: two runs and the rest
stretches_leg : (steps : List Step) (c : List Point) (s t : ℕ) (ts : List ℕ)
    → stretches steps c (s ∷ (t ∷ ts))
    ≡ segment (slow_at steps c s) (ticks_between s t - fast_at steps c s t) ∷ (segment (suc (slow_at steps c s)) (fast_at steps c s t) ∷ stretches steps c (t ∷ ts))
unfolding stretches stretch slow_at fast_at
stretches_leg steps c s t ts = refl

no_ticks : (steps : List Step) (c : List Point) (s : ℕ) → ticks_of (stretches steps c (s ∷ [])) ≡ 0
unfolding ticks_of sum_of stretches
no_ticks steps c s = refl

no_step_of : (steps : List Step) (c : List Point) (s m : ℕ) → step_of (stretches steps c (s ∷ [])) m ≡ 0
unfolding step_of stretches
no_step_of steps c s m = refl

-- two runs one after the other, a ticks at h and b at the next step
over_two : (worth : ℕ → ℕ) (h a b n : ℕ) (ss : List Segment)
    → sum_to (a + (b + n)) (λ m. worth (step_of (segment h a ∷ (segment (suc h) b ∷ ss)) m)) ≡ worth h * a + (worth (suc h) * b + sum_to n (λ m. worth (step_of ss m)))
unfolding segment
over_two worth h a b n ss =
    let p = over_first worth (segment h a) (segment (suc h) b ∷ ss) (b + n) in
    let q = over_first worth (segment (suc h) b) ss n in
    omega arith

-- n ticks of which f are fast, at speeds v and v + g
two_speeds : (n f v g : ℕ) → f ≤ n → v * (n - f) + (v + g) * f ≡ n * v + f * g
two_speeds n f v g l =
    let e : n - f + f ≡ n = omega arith in
    let a = mul-add v (n - f) f in
    let b = ap (λ (x : ℕ). v * x) e in
    let c = add-mul v g f in
    let p = mul_comm v n in
    let q = mul_comm g f in
    omega arith

step_either : (P : ℕ → Type 0) (s : Segment) (ss : List Segment) → P s.step → ((m : ℕ) → P (step_of ss m)) → (m : ℕ) → P (step_of (s ∷ ss) m)
step_either P s ss p q m =
    elim (cases_lt m s.ticks) [
      | inl l ↦ subst P (sym (step_first s ss m l)) p
      | inr l ↦ subst P (sym (step_rest s ss m l)) (q (m - s.ticks))
    ]

module _ (steps : List Step) (jobs : List Job) (c : List Point) (d : Drawable steps jobs c) where
  -- the grains of the stretches from s on, before tick n
  from_grains : ℕ → List ℕ → ℕ → ℕ
  from_grains s ts n = sum_to n (λ m. speed_at steps (step_of (stretches steps c (s ∷ ts)) m))

  leg_grains : (s t : ℕ) (ts : List ℕ) → Leg steps jobs c s t → (n : ℕ) → done_by steps c s + from_grains s (t ∷ ts) (ticks_between s t + n) ≡ done_by steps c t + from_grains t ts n
  unfolding from_grains
  leg_grains s t ts leg n =
      let h = slow_at_known steps jobs c d s in
      let fits = leg.fits in
      let grows = leg.grows in
      let e : ticks_between s t - fast_at steps c s t + (fast_at steps c s t + n) ≡ ticks_between s t + n = omega arith in
      let a = over_two (speed_at steps) (slow_at steps c s) (ticks_between s t - fast_at steps c s t) (fast_at steps c s t) n (stretches steps c (t ∷ ts)) in
      let b : sum_to (ticks_between s t + n) (λ m. speed_at steps (step_of (stretches steps c (s ∷ (t ∷ ts))) m))
      ≡ speed_at steps (slow_at steps c s) * (ticks_between s t - fast_at steps c s t) + (speed_at steps (suc (slow_at steps c s)) * fast_at steps c s t + sum_to n (λ m. speed_at steps (step_of (stretches steps c (t ∷ ts)) m)))
      = rw (stretches_leg steps c s t ts, ← e) a in
      let v = ap (λ (x : ℕ). x * fast_at steps c s t) (next_speed steps d.lawful (slow_at steps c s) h) in
      let w = two_speeds (ticks_between s t) (fast_at steps c s t) (speed_at steps (slow_at steps c s)) (gap steps (slow_at steps c s)) fits in
      omega arith

  no_grains : (s : ℕ) (ts : List ℕ) → from_grains s ts 0 ≡ 0
  unfolding from_grains sum_to
  no_grains s ts = refl

  same_cut : (s : ℕ) (ts : List ℕ) (x : ℕ) → x ≡ s → (s ≤ x) × (done_by steps c s + from_grains s ts (unit * (x - s)) ≡ done_by steps c x)
  same_cut s ts x e =
      let z : unit * (x - s) ≡ 0 = omega arith in
      let a = ap (from_grains s ts) z in
      let b = no_grains s ts in
      let f = ap (done_by steps c) e in
      (omega arith, omega arith)

  -- from s to any later cut the stretches do what is read off the path
  cut_grains : (s : ℕ) (ts : List ℕ) → Course steps jobs c s ts → (x : ℕ) → Among x (s ∷ ts)
      → (s ≤ x) × (done_by steps c s + from_grains s ts (unit * (x - s)) ≡ done_by steps c x)
  unfolding ticks_between
  cut_grains s [] k x (inl e) = same_cut s [] x e
  cut_grains s (t ∷ ts) k x (inl e) = same_cut s (t ∷ ts) x e
  cut_grains s [] k x (inr m) = absurd m
  cut_grains s (t ∷ ts) (leg, rest) x (inr m) =
      let o = leg.onward in
      let (l, e) = cut_grains t ts rest x m in
      let f : unit * (x - s) ≡ ticks_between s t + unit * (x - t) = omega arith in
      let a = leg_grains s t ts leg (unit * (x - t)) in
      let b = ap (from_grains s (t ∷ ts)) f in
      (omega arith, omega arith)

  -- the ticks of the stretches from s on
  cut_ticks : (s : ℕ) (ts : List ℕ) → Course steps jobs c s ts → ticks_of (stretches steps c (s ∷ ts)) + s * unit ≡ span jobs * unit
  unfolding ticks_of sum_of segment ticks_between
  cut_ticks s [] e = let a = no_ticks steps c s in omega arith
  cut_ticks s (t ∷ ts) (leg, rest) =
      let a = cut_ticks t ts rest in
      let o = leg.onward in
      let f = leg.fits in
      let e = ap ticks_of (stretches_leg steps c s t ts) in
      omega arith

  -- every tick of the stretches is at a step of the processor
  cut_steps : (s : ℕ) (ts : List ℕ) → (m : ℕ) → step_of (stretches steps c (s ∷ ts)) m < length steps
  unfolding segment
  cut_steps s [] m = let a = no_step_of steps c s m in let b = d.lawful.least in omega arith
  cut_steps s (t ∷ ts) m =
      let h = slow_at_known steps jobs c d s in
      rw (stretches_leg steps c s t ts)
      (step_either (λ (x : ℕ). x < length steps) (segment (slow_at steps c s) (ticks_between s t - fast_at steps c s t)) (segment (suc (slow_at steps c s)) (fast_at steps c s t) ∷ stretches steps c (t ∷ ts)) (omega arith)
      (step_either (λ (x : ℕ). x < length steps) (segment (suc (slow_at steps c s)) (fast_at steps c s t)) (stretches steps c (t ∷ ts)) h (cut_steps t ts)) m)

  -- the drawn plan has the ticks of the span, at steps of the processor
  pub drawn_ticks : ticks_of (drawn steps jobs c) ≡ span jobs * unit
  unfolding drawn
  drawn_ticks =
      let (rest, e, r, all) = course steps jobs c d in
      let a = ticks_joined (stretches steps c (cuts jobs)) in
      let b = ap (λ (x : List ℕ). ticks_of (stretches steps c x)) e in
      let f = cut_ticks 0 rest all in
      omega arith

  pub drawn_steps : (m : ℕ) → step_of (drawn steps jobs c) m < length steps
  unfolding drawn
  drawn_steps m =
      let (rest, e, r, all) = course steps jobs c d in
      let a = step_joined (stretches steps c (cuts jobs)) m in
      let b = ap (λ (x : List ℕ). step_of (stretches steps c x) m) e in
      let f = cut_steps 0 rest m in
      omega arith

  -- by each cut it has done what is read off the path
  pub drawn_grains : (x : ℕ) → Among x (cuts jobs) → grains steps (drawn steps jobs c) (x * unit) ≡ done_by steps c x
  unfolding drawn grains from_grains
  drawn_grains x m =
      let (rest, e, r, all) = course steps jobs c d in
      let a = sum_to_cong (x * unit) (λ n. speed_at steps (step_of (joined (stretches steps c (cuts jobs))) n)) (λ n. speed_at steps (step_of (stretches steps c (cuts jobs)) n)) (λ n l. ap (speed_at steps) (step_joined (stretches steps c (cuts jobs)) n)) in
      let b = ap (λ (y : List ℕ). sum_to (x * unit) (λ n. speed_at steps (step_of (stretches steps c y) n))) e in
      let f = (cut_grains 0 rest all x (subst (Among x) e m)).1 in
      let g : unit * (x - 0) ≡ x * unit = omega arith in
      let h = ap (from_grains 0 rest) g in
      let z = done_start steps jobs c d in
      omega arith

  -- all its grains are all the work
  pub drawn_spends : grains steps (drawn steps jobs c) (span jobs * unit) ≡ total jobs * unit
  drawn_spends =
      let a = drawn_grains (span jobs) (span_cut jobs) in
      let b = done_end steps jobs c d in
      omega arith

  -- where there is a job there is time
  job_time : (i : ℕ) → i < length jobs → (0 < span jobs) × ((job_at jobs i).arrival ≤ span jobs) × ((job_at jobs i).deadline ≤ span jobs)
  job_time i l =
      let a = cut_in_span jobs d.ordered (job_at jobs i).deadline (deadline_cut jobs i l) in
      let b = d.ordered.timely i l in
      (omega arith, omega arith, omega arith)

  -- before job i arrives all grains go to the jobs before it
  none_early : (i n : ℕ) → i < length jobs → n < (job_at jobs i).arrival * unit → share steps jobs (drawn steps jobs c) i n ≡ 0
  unfolding share
  none_early i n l k =
      let (z, b, e) = job_time i l in
      let w = (done_walls steps jobs c d z (job_at jobs i).arrival b).1 in
      let g = drawn_grains (job_at jobs i).arrival (arrival_cut jobs i l) in
      let m = grains_longer steps jobs (drawn steps jobs c) (suc n) ((job_at jobs i).arrival * unit) k in
      let o = ceiling_before jobs d.ordered i l in
      let p = portion_none jobs i (grains steps (drawn steps jobs c) (suc n)) (omega arith) in
      omega arith

  -- when job i is due it has its work, and so has each job before it
  none_late : (i n : ℕ) → i < length jobs → (job_at jobs i).deadline * unit ≤ n → share steps jobs (drawn steps jobs c) i n ≡ 0
  unfolding share
  none_late i n l k =
      let (z, b, e) = job_time i l in
      let w = (done_walls steps jobs c d z (job_at jobs i).deadline e).0 in
      let g = drawn_grains (job_at jobs i).deadline (deadline_cut jobs i l) in
      let m = grains_longer steps jobs (drawn steps jobs c) ((job_at jobs i).deadline * unit) n k in
      let m2 = grains_longer steps jobs (drawn steps jobs c) n (suc n) (omega arith) in
      let o = before_floor jobs d.ordered i l in
      let p = portion_all jobs i (grains steps (drawn steps jobs c) n) (omega arith) in
      let q = portion_all jobs i (grains steps (drawn steps jobs c) (suc n)) (omega arith) in
      omega arith

  -- over the span a job gets its work
  all_given : (i : ℕ) → i < length jobs → sum_to (span jobs * unit) (share steps jobs (drawn steps jobs c) i) ≡ (job_at jobs i).work * unit
  all_given i l =
      let a = shares_portion steps jobs (drawn steps jobs c) i (span jobs * unit) in
      let g = drawn_spends in
      let b = before_all jobs in
      let e = before_longer jobs (suc i) (length jobs) l in
      let p = portion_all jobs i (grains steps (drawn steps jobs c) (span jobs * unit)) (omega arith) in
      omega arith

  drawn_way : Way steps jobs 1 (step_of (drawn steps jobs c)) (share steps jobs (drawn steps jobs c))
  unfolding parts
  drawn_way = record {
    fine = omega arith;
    known = λ p l. drawn_steps p;
    able = λ p l. shares_speed steps jobs (drawn steps jobs c) p;
    early = λ i p l b k. none_early i p l (rw (mul-one ((job_at jobs i).arrival * unit)) at k);
    late = λ i p l b k. none_late i p l (rw (mul-one ((job_at jobs i).deadline * unit)) at k);
    whole = λ i l. rw (mul-one (span jobs * unit), mul-one ((job_at jobs i).work * unit)) (all_given i l);
  }

-- the drawn plan serves the jobs
pub plan_serves : (steps : List Step) (jobs : List Job) (c : List Point) → Drawable steps jobs c → Serves steps jobs (drawn steps jobs c)
plan_serves steps jobs c d = record {
  fills = drawn_ticks steps jobs c d;
  spends = drawn_spends steps jobs c d;
  way = drawn_way steps jobs c d;
}

-- its energy tick by tick is its energy run by run
pub way_energy_of_plan : (steps : List Step) (jobs : List Job) (c : List Point) → Drawable steps jobs c
    → way_energy steps jobs 1 (step_of (drawn steps jobs c)) ≡ energy steps (drawn steps jobs c)
unfolding way_energy parts energy
way_energy_of_plan steps jobs c d =
    let a = over_all (power_at steps) (drawn steps jobs c) in
    let b = drawn_ticks steps jobs c d in
    let e = mul-one (span jobs * unit) in
    let f = ap (λ (x : ℕ). sum_to x (λ m. power_at steps (step_of (drawn steps jobs c) m))) (e ∙ sym b) in
    f ∙ a

-- and that is the least energy of the jobs
pub plan_least : (steps : List Step) (jobs : List Job) (c : List Point) → Drawable steps jobs c → Least steps jobs (energy steps (drawn steps jobs c))
plan_least steps jobs c d = record {
  pick = step_of (drawn steps jobs c);
  give = share steps jobs (drawn steps jobs c);
  way = drawn_way steps jobs c d;
  reached = way_energy_of_plan steps jobs c d;
  unbeaten = plan_unbeaten steps jobs c d;
}
