-- The plan does not depend on which corner list of the law it is drawn from.
-- Between neighbouring cuts each list has one straight piece, and the two pieces have equal heights, as fractions, at both cuts:
-- so their slopes are equal, their slow steps are the same, and the work done by each cut rounds to the same grains.
use Rattle.std.proofs.Common.{◌≡◌, ℕ, suc, ◌+◌, ◌-◌, ◌*◌, ◌/◌, ◌<◌, ◌≤◌, true, false, List, [], ◌∷◌, ◌++◌, sym, refl, ap, ◌∙◌, subst, ap₂, inl, inr, mul_assoc, mul_comm, add-mul, mul_right_comm, le_of_mul-le-mul_right, arith}
use native.Mathlib.Nat.{mul-div-mul_right}
use Rattle.std.proofs.lemmas.Bool.{cases_lt}
use Rattle.model.specs.Steps.{unit, speed_at, gap, Lawful}
use Rattle.model.specs.Jobs.{Ordered, span, cuts}
use Rattle.model.specs.Path.{start, run, rise, height_on, keeps, path, between, choices, Piece, piece_from, piece_at}
use Rattle.model.specs.Plan.{slow_step, done_at, ticks_between, fast_ticks, segment, stretch, stretches, joined, plan}
use Rattle.model.specs.Speed.{want}
use Rattle.model.specs.declared.job.Job.{Job}
use Rattle.model.specs.declared.point.Point.{Point}
use Rattle.model.specs.declared.segment.Segment.{Segment}
use Rattle.model.specs.declared.step.Step.{Step}
use Rattle.theory.specs.Sweep.{sweep}
use Rattle.theory.proofs.Law.{Straight, Kept, kept_from_keeps, keeps_from_kept}
use Rattle.theory.proofs.Cuts.{Among, Rises, rises_above, cuts_rooted, cut_in_span}
use Rattle.theory.proofs.Unique.{cross, same_heights}
use Rattle.theory.proofs.Slow.{slow_grows}
use Rattle.theory.proofs.Rounds.{height_grows, height_first, height_last}
use Rattle.theory.proofs.Drawn.{drawn, plan_drawn, AtCuts, Drawable, Next, next_from, kept_before_end, piece_first, piece_rest}
use Rattle.theory.proofs.Marks.{cuts_span, between_has}
use Rattle.theory.proofs.Exists.{sweep_keeps, path_keeps, path_corners, sweep_among, CornersAtCuts, AllAt, choices_at}
use Rattle.theory.proofs.Exists as exists
use Rattle.theory.proofs.Planned.{at_cuts_from, drawable}

-- l is the piece at time t of a path that goes on after t
record Held (jobs : List Job) (t : ℕ) (l : Piece) : Type 0 where
  pub straight : Straight jobs l.from l.to
  pub end_cut : Among l.to.time (cuts jobs)
  pub begun : l.from.time ≤ t
  pub going : t < span jobs → t < l.to.time

held_from : (jobs : List Job) (p : Point) (c : List Point) → Kept jobs p c → AtCuts (cuts jobs) c → p.time < span jobs → (t : ℕ) → p.time ≤ t → Held jobs t (piece_from p c t)
unfolding piece_from
held_from jobs p [] k a b t l = let e = k.0 in absurd (omega arith)
held_from jobs p (q ∷ []) k a b t l = record { straight = k.0; end_cut = a.0; begun = l; going = λ m. let e = k.1 in omega arith }
held_from jobs p (q ∷ (r ∷ rs)) k a b t l =
    elim (cases_lt t q.time) [
      | inl m ↦ subst (Held jobs t) (sym (piece_first p q (r ∷ rs) t m)) (record { straight = k.0; end_cut = a.0; begun = l; going = λ n. m })
      | inr m ↦
          let n = kept_before_end jobs q r rs k.2 in
          subst (Held jobs t) (sym (piece_rest p q r rs t m)) (held_from jobs q (r ∷ rs) k.2 a.1 (omega arith) t m)
    ]

-- where a piece ends at t and the next begins, both give the height there
meets : (jobs : List Job) (t : ℕ) (l m : Piece) → Next jobs t l m
    → height_on m.from m.to t * run l.from l.to ≡ height_on l.from l.to t * run m.from m.to
meets jobs t l m (inl e) =
    ap (λ (x : Piece). height_on x.from x.to t * run l.from l.to) e ∙ ap (λ (x : Piece). height_on l.from l.to t * run x.from x.to) (sym e)
meets jobs t l m (inr (ef, et, u)) =
    let a : height_on l.from l.to t ≡ l.to.height * run l.from l.to
    = subst (λ (x : ℕ). height_on l.from l.to x ≡ l.to.height * run l.from l.to) et (height_last l.from l.to) in
    let b : height_on m.from m.to t ≡ m.from.height * run m.from m.to
    = subst (λ (x : ℕ). height_on m.from m.to x ≡ m.from.height * run m.from m.to) (ap (λ (x : Point). x.time) ef ∙ et) (height_first m.from m.to) in
    let h : m.from.height ≡ l.to.height = ap (λ (x : Point). x.height) ef in
    ap (λ (x : ℕ). x * run l.from l.to) (b ∙ ap (λ (x : ℕ). x * run m.from m.to) h)
    ∙ (mul_right_comm l.to.height (run m.from m.to) (run l.from l.to) ∙ ap (λ (x : ℕ). x * run m.from m.to) (sym a))

-- equal heights x/u and y/v at one time, and also d later, give equal slopes a/u and b/v
slopes_same : (x y u v a b d : ℕ) → 0 < d → x * v ≡ y * u → (x + a * d) * v ≡ (y + b * d) * u → a * v ≡ b * u
slopes_same x y u v a b d d0 e f =
    let p = add-mul x (a * d) v in
    let q = add-mul y (b * d) u in
    let r = mul_right_comm a d v in
    let s = mul_right_comm b d u in
    let l = le_of_mul-le-mul_right {m = a * v} {n = b * u} {k = d} (omega arith) d0 in
    let k = le_of_mul-le-mul_right {m = b * u} {n = a * v} {k = d} (omega arith) d0 in
    omega arith

-- equal fractions round alike
rounds_same : (w g x y u v : ℕ) → 0 < u → 0 < v → x * v ≡ y * u → w * x / (u * g) * g ≡ w * y / (v * g) * g
rounds_same w g x y u v u0 v0 e =
    let a : w * x * v ≡ w * y * u = mul_assoc w x v ∙ (ap (λ (k : ℕ). w * k) e ∙ sym (mul_assoc w y u)) in
    let b : u * g * v ≡ v * g * u = mul_comm (u * g) v ∙ (ap (λ (k : ℕ). v * k) (mul_comm u g) ∙ sym (mul_assoc v g u)) in
    ap (λ (k : ℕ). k * g)
    (sym (mul-div-mul_right {m = v} (w * x) (u * g) v0) ∙ (ap₂ (λ (k n : ℕ). k / n) a b ∙ mul-div-mul_right {m = u} (w * y) (v * g) u0))

-- two pieces with equal heights at s and at t
module _ (steps : List Step) (jobs : List Job) (s t : ℕ) (l m : Piece) (sl : Straight jobs l.from l.to) (sm : Straight jobs m.from m.to)
    (bl : l.from.time ≤ s) (bm : m.from.time ≤ s) (on : s < t) (el : t ≤ l.to.time) (em : t ≤ m.to.time)
    (hs : height_on l.from l.to s * run m.from m.to ≡ height_on m.from m.to s * run l.from l.to)
    (ht : height_on l.from l.to t * run m.from m.to ≡ height_on m.from m.to t * run l.from l.to) where
  runs : (0 < run l.from l.to) × (0 < run m.from m.to)
  unfolding run
  runs = let a = sl.onward in let b = sm.onward in (omega arith, omega arith)

  slow_same : slow_step steps l ≡ slow_step steps m
  slow_same =
      let gl = height_grows l.from l.to s t sl.level bl (omega arith) el in
      let gm = height_grows m.from m.to s t sm.level bm (omega arith) em in
      let k = ap (λ (x : ℕ). x * run m.from m.to) (sym gl) ∙ (ht ∙ ap (λ (x : ℕ). x * run l.from l.to) gm) in
      let e = slopes_same (height_on l.from l.to s) (height_on m.from m.to s) (run l.from l.to) (run m.from m.to) (rise l.from l.to) (rise m.from m.to) (t - s) (omega arith) hs k in
      let a = slow_grows steps l m runs.0 (omega arith) in
      let b = slow_grows steps m l runs.1 (omega arith) in
      omega arith

  done_same : (g : ℕ) → (done_at l g s ≡ done_at m g s) × (done_at l g t ≡ done_at m g t)
  unfolding done_at
  done_same g = (rounds_same unit g _ _ _ _ runs.0 runs.1 hs, rounds_same unit g _ _ _ _ runs.0 runs.1 ht)

  stretch_same : stretch steps l s t ≡ stretch steps m s t
  unfolding stretch fast_ticks
  stretch_same =
      let h = slow_step steps l in
      let f : ℕ → ℕ → ℕ → ℕ = λ k x y. (x - y - ticks_between s t * speed_at steps k) / gap steps k in
      let a : fast_ticks steps l s t ≡ f h (done_at m (gap steps h) t) (done_at m (gap steps h) s) =
      ap₂ (λ (x y : ℕ). f h x y) (done_same (gap steps h)).1 (done_same (gap steps h)).0 in
      let b : fast_ticks steps l s t ≡ fast_ticks steps m s t =
      a ∙ ap (λ (k : ℕ). f k (done_at m (gap steps k) t) (done_at m (gap steps k) s)) slow_same in
      ap₂ (λ (k x : ℕ). segment k (ticks_between s t - x) ∷ (segment (suc k) x ∷ [])) slow_same b

module _ (steps : List Step) (jobs : List Job) (c d : List Point) (ordered : Ordered jobs) (kc : keeps jobs c ≡ true) (kd : keeps jobs d ≡ true)
    (ac : AtCuts (cuts jobs) c) (ad : AtCuts (cuts jobs) d) where
  -- what is known of the pieces of either list
  held : (e : List Point) → keeps jobs e ≡ true → AtCuts (cuts jobs) e → 0 < span jobs → (t : ℕ) → Held jobs t (piece_at e t)
  unfolding keeps piece_at
  held e k a b t = held_from jobs start e (kept_from_keeps jobs start e k) a b t (omega arith)

  onto : (e : List Point) → keeps jobs e ≡ true → (s t : ℕ) → s ≤ t → t ≤ (piece_at e s).to.time → Next jobs t (piece_at e s) (piece_at e t)
  unfolding keeps piece_at
  onto e k s t b l = next_from jobs start e (kept_from_keeps jobs start e k) s t (omega arith) b l

  run_of : (t : ℕ) (l : Piece) → Held jobs t l → 0 < run l.from l.to
  unfolding run
  run_of t l h = let o = h.straight.onward in omega arith

  -- one stretch: t is the next cut after s, so both pieces go on at least to t
  leg_same : (s t : ℕ) → s < t → t ≤ span jobs → t ≤ (piece_at c s).to.time → t ≤ (piece_at d s).to.time
      → stretch steps (piece_at c s) s t ≡ stretch steps (piece_at d s) s t
  leg_same s t l b tc td =
      let hc = held c kc ac (omega arith) in
      let hd = held d kd ad (omega arith) in
      let at-t = cross
      (height_on (piece_at c t).from (piece_at c t).to t) (height_on (piece_at d t).from (piece_at d t).to t)
      (run (piece_at c t).from (piece_at c t).to) (run (piece_at d t).from (piece_at d t).to)
      (height_on (piece_at c s).from (piece_at c s).to t) (height_on (piece_at d s).from (piece_at d s).to t)
      (run (piece_at c s).from (piece_at c s).to) (run (piece_at d s).from (piece_at d s).to)
      (run_of t (piece_at c t) (hc t)) (run_of t (piece_at d t) (hd t)) (same_heights jobs c d kc kd t b)
      (meets jobs t (piece_at c s) (piece_at c t) (onto c kc s t (omega arith) tc))
      (meets jobs t (piece_at d s) (piece_at d t) (onto d kd s t (omega arith) td)) in
      stretch_same steps jobs s t (piece_at c s) (piece_at d s) (hc s).straight (hd s).straight (hc s).begun (hd s).begun l tc td
      (same_heights jobs c d kc kd s (omega arith)) at-t

  -- along the cuts
  stretches_same : (s : ℕ) (ts : List ℕ) → Rises s ts → ((x : ℕ) → Among x (cuts jobs) → s < x → Among x ts) → ((x : ℕ) → Among x ts → x ≤ span jobs)
      → stretches steps c (s ∷ ts) ≡ stretches steps d (s ∷ ts)
  unfolding stretches
  stretches_same s [] r all low = refl
  stretches_same s (t ∷ ts) r all low =
      let k = low t (inl refl) in
      let a = r.0 in
      let hc = held c kc ac (omega arith) s in
      let hd = held d kd ad (omega arith) s in
      let tc : t ≤ (piece_at c s).to.time = no_sooner (all (piece_at c s).to.time hc.end_cut (hc.going (omega arith))) in
      let td : t ≤ (piece_at d s).to.time = no_sooner (all (piece_at d s).to.time hd.end_cut (hd.going (omega arith))) in
      ap₂ (λ (x y : List Segment). x ++ y) (leg_same s t a k tc td)
      (stretches_same t ts r.1 (λ x m n. later x (all x m (omega arith)) n) (λ x m. low x (inr m)))
    where
      no_sooner : {x : ℕ} → Among x (t ∷ ts) → t ≤ x
      no_sooner (inl e) = omega arith
      no_sooner {x} (inr m) = let a = rises_above t ts r.1 x m in omega arith

      later : (x : ℕ) → Among x (t ∷ ts) → t < x → Among x ts
      later x (inl e) n = absurd (omega arith)
      later x (inr m) n = m

  all_same : stretches steps c (cuts jobs) ≡ stretches steps d (cuts jobs)
  all_same = along (cuts_rooted jobs)
    where
      along : (rest : List ℕ) × (cuts jobs ≡ 0 ∷ rest) × Rises 0 rest → stretches steps c (cuts jobs) ≡ stretches steps d (cuts jobs)
      along (rest, e, r) =
          ap (stretches steps c) e
          ∙ (stretches_same 0 rest r (λ x m l. past x l (subst (Among x) e m)) (λ x m. cut_in_span jobs ordered x (subst (Among x) (sym e) (inr m)))
          ∙ sym (ap (stretches steps d) e))
        where
          past : (x : ℕ) → 0 < x → Among x (0 ∷ rest) → Among x rest
          past x l (inl f) = absurd (omega arith)
          past x l (inr m) = m

pub drawn_same : (steps : List Step) (jobs : List Job) (c d : List Point) → Lawful steps → Ordered jobs → keeps jobs c ≡ true → keeps jobs d ≡ true
    → AtCuts (cuts jobs) c → AtCuts (cuts jobs) d → drawn steps jobs c ≡ drawn steps jobs d
unfolding drawn
drawn_same steps jobs c d l o kc kd ac ad = ap joined (all_same steps jobs c d o kc kd ac ad)

-- the sweep's corners are at cuts: they are one of the candidates
at_cuts_among : (ts : List ℕ) (c : List Point) (cs : List (List Point)) → AllAt ts cs → exists.Among c cs → CornersAtCuts ts c
at_cuts_among ts c [] a m = absurd m
at_cuts_among ts c (x ∷ xs) (h, a) (inl e) = subst (CornersAtCuts ts) (sym e) h
at_cuts_among ts c (x ∷ xs) (h, a) (inr m) = at_cuts_among ts c xs a m

sweep_corners : (jobs : List Job) → Ordered jobs → CornersAtCuts (cuts jobs) (sweep jobs)
unfolding sweep
sweep_corners [] o = tt
sweep_corners (j ∷ js) o =
    at_cuts_among (cuts (j ∷ js)) (sweep (j ∷ js)) (choices (j ∷ js) (between (span (j ∷ js)) (cuts (j ∷ js))))
    (choices_at (j ∷ js) (cuts (j ∷ js)) (between (span (j ∷ js)) (cuts (j ∷ js))) (cuts_span (j ∷ js)) (λ u e. between_has (span (j ∷ js)) u (cuts (j ∷ js)) e))
    (sweep_among j js o)

-- so the plan may be drawn from the sweep
pub plan_swept : (steps : List Step) (jobs : List Job) → Lawful steps → Ordered jobs → plan steps jobs ≡ drawn steps jobs (sweep jobs)
plan_swept steps jobs l o =
    plan_drawn steps jobs
    ∙ drawn_same steps jobs (path jobs) (sweep jobs) l o (path_keeps jobs o) (sweep_keeps jobs o)
    (at_cuts_from (cuts jobs) (path jobs) (path_corners jobs)) (at_cuts_from (cuts jobs) (sweep jobs) (sweep_corners jobs o))

pub sweep_drawable : (steps : List Step) (jobs : List Job) → Lawful steps → Ordered jobs → want steps jobs ≡ false → Drawable steps jobs (sweep jobs)
sweep_drawable steps jobs l o w = drawable steps jobs (sweep jobs) l o w (sweep_keeps jobs o) (sweep_corners jobs o)

-- and so may it from any other list that a plan can be drawn from
pub drawn_plan : (steps : List Step) (jobs : List Job) (c : List Point) → Drawable steps jobs c → drawn steps jobs c ≡ plan steps jobs
drawn_plan steps jobs c d =
    drawn_same steps jobs c (path jobs) d.lawful d.ordered (unfold keeps in keeps_from_kept jobs start c d.kept) (path_keeps jobs d.ordered) d.at_cuts
    (at_cuts_from (cuts jobs) (path jobs) (path_corners jobs))
    ∙ sym (plan_drawn steps jobs)
