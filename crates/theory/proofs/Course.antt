-- The drawn plan from cut to cut: one `Leg` of facts for each two neighbouring cuts, strung along the list of cuts.
-- The work done by a cut is read off the piece that starts or goes on there; where two pieces meet both read the same, since the height is whole.
use Rattle.std.proofs.Common.{◌≡◌, ℕ, suc, ◌+◌, ◌*◌, ◌/◌, ◌<◌, ◌≤◌, ◌⊎◌, List, [], ◌∷◌, length, sym, refl, ap, ◌∙◌, subst, inl, inr, div-le_self, arith}
use Rattle.std.proofs.lemmas.Bool.{cases_lt, cases_order}
use Rattle.model.specs.Steps.{unit, speed_at, gap}
use Rattle.model.specs.Jobs.{total, span, ceiling, floor, cuts}
use Rattle.model.specs.Path.{start, run, rise, height_on, Piece, piece_from, piece_at}
use Rattle.model.specs.Plan.{slow_step, done_at, ticks_between, fast_ticks}
use Rattle.model.specs.declared.job.Job.{Job}
use Rattle.model.specs.declared.point.Point.{Point}
use Rattle.model.specs.declared.step.Step.{Step}
use Rattle.theory.proofs.Cuts.{Among, Rises, rises_above, cuts_rooted, span_cut, cut_in_span}
use Rattle.theory.proofs.Slow.{slow_known, slow_grows}
use Rattle.theory.proofs.Rounds.{done_first, done_last, done_over, done_under, done_grows}
use Rattle.theory.proofs.Drawn.{Drawable, On, Next, on_piece, next_piece, kept_before_end, piece_first}

-- the slow step from time t on, and the work done by then
unfoldable pub slow_at : List Step → List Point → ℕ → ℕ
slow_at steps c t = slow_step steps (piece_at c t)

unfoldable pub done_by : List Step → List Point → ℕ → ℕ
done_by steps c t = done_at (piece_at c t) (gap steps (slow_step steps (piece_at c t))) t

-- the fast ticks from s to t
unfoldable pub fast_at : List Step → List Point → ℕ → ℕ → ℕ
fast_at steps c s t = fast_ticks steps (piece_at c s) s t

-- what is known from one cut to the next
pub record Leg (steps : List Step) (jobs : List Job) (c : List Point) (s t : ℕ) : Type 0 where
  pub onward : s < t
  pub inside : t ≤ span jobs
  -- the fast ticks are some of the ticks
  pub fits : fast_at steps c s t ≤ ticks_between s t
  -- the two steps do the work
  pub grows : done_by steps c t ≡ done_by steps c s + (ticks_between s t * speed_at steps (slow_at steps c s) + fast_at steps c s t * gap steps (slow_at steps c s))
  -- at t the slow step stays, or rises with the work on the ceiling, or falls with the work on the floor
  pub turn : (slow_at steps c s ≡ slow_at steps c t)
      ⊎ (((slow_at steps c s ≤ slow_at steps c t) × (done_by steps c t ≡ unit * ceiling jobs t))
      ⊎ ((slow_at steps c t ≤ slow_at steps c s) × (done_by steps c t ≡ unit * floor jobs t)))

-- legs from s along the times, up to the end
abbrev pub Course : List Step → List Job → List Point → ℕ → List ℕ → Type 0
Course steps jobs c s [] = s ≡ span jobs
Course steps jobs c s (t ∷ ts) = Leg steps jobs c s t × Course steps jobs c t ts

nothing_done : (r g : ℕ) → unit * 0 / (r * g) * g ≡ 0
nothing_done r g =
    let a = div-le_self (unit * 0) (r * g) in
    let e : unit * 0 / (r * g) ≡ 0 = omega arith in
    let b = ap (λ (x : ℕ). x * g) e in
    omega arith

module _ (steps : List Step) (jobs : List Job) (c : List Point) (d : Drawable steps jobs c) where
  pub slow_at_known : (t : ℕ) → suc (slow_at steps c t) < length steps
  unfolding slow_at
  slow_at_known t = slow_known steps d.lawful (piece_at c t)

  -- between the walls
  pub done_walls : 0 < span jobs → (t : ℕ) → t ≤ span jobs → (unit * floor jobs t ≤ done_by steps c t) × (done_by steps c t ≤ unit * ceiling jobs t)
  unfolding done_by
  done_walls b t l =
      let o = on_piece steps jobs c d b t in
      let k = slow_known steps d.lawful (piece_at c t) in
      let e : t ≤ (piece_at c t).to.time = elim (cases_lt t (span jobs)) [
        | inl m ↦ let g = o.going m in omega arith
        | inr m ↦ let g = (o.ended (omega arith)).0 in omega arith
      ] in (
        done_over steps d.lawful jobs (piece_at c t) o.straight (slow_step steps (piece_at c t)) k t o.begun e,
        done_under steps d.lawful jobs (piece_at c t) o.straight (slow_step steps (piece_at c t)) k t o.begun e,
      )

  -- where two pieces meet
  leg_turn : (s t : ℕ) (l m : Piece) (ol : On steps jobs s l) (om : On steps jobs t m) → Next jobs t l m
      → (done_at l (gap steps (slow_step steps l)) t ≡ done_at m (gap steps (slow_step steps m)) t)
      × ((slow_step steps l ≡ slow_step steps m)
      ⊎ (((slow_step steps l ≤ slow_step steps m) × (done_at m (gap steps (slow_step steps m)) t ≡ unit * ceiling jobs t))
      ⊎ ((slow_step steps m ≤ slow_step steps l) × (done_at m (gap steps (slow_step steps m)) t ≡ unit * floor jobs t))))
  unfolding run
  leg_turn s t l m ol om (inl e) =
      (ap (λ (x : Piece). done_at x (gap steps (slow_step steps x)) t) (sym e), inl (ap (slow_step steps) (sym e)))
  leg_turn s t l m ol om (inr (ef, et, u)) =
      let dl : done_at l (gap steps (slow_step steps l)) t ≡ unit * l.to.height
      = subst (λ (x : ℕ). done_at l (gap steps (slow_step steps l)) x ≡ unit * l.to.height) et
      (done_last steps d.lawful jobs l ol.straight (slow_step steps l) (slow_known steps d.lawful l)) in
      let dm : done_at m (gap steps (slow_step steps m)) t ≡ unit * m.from.height
      = subst (λ (x : ℕ). done_at m (gap steps (slow_step steps m)) x ≡ unit * m.from.height) (ap (λ (x : Point). x.time) ef ∙ et)
      (done_first steps d.lawful jobs m om.straight (slow_step steps m) (slow_known steps d.lawful m)) in
      let eh = ap (λ (x : Point). x.height) ef in
      let er = ap (λ (x : Point). rise x m.to * run l.from l.to) ef in
      let en = ap (λ (x : Point). rise l.from l.to * run x m.to) ef in
      let pl : 0 < run l.from l.to = let o = ol.straight.onward in omega arith in
      let pm : 0 < run m.from m.to = let o = om.straight.onward in omega arith in (
        omega arith,
        elim (cases_order (rise l.from l.to * run m.from m.to) (rise m.from m.to * run l.from l.to)) [
          | inl e ↦ inl (
              let a = slow_grows steps l m pl (omega arith) in
              let b = slow_grows steps m l pm (omega arith) in
              omega arith)
          | inr (inl k) ↦ inr (inl (
            slow_grows steps l m pl (omega arith),
            (
                let h = (u.rising (omega arith)).1 in
                let g = ap (ceiling jobs) et in
                omega arith),
          ))
          | inr (inr k) ↦ inr (inr (
            slow_grows steps m l pm (omega arith),
            (
                let h = (u.falling (omega arith)).1 in
                let g = ap (floor jobs) et in
                omega arith),
          ))
        ],
      )

  -- one leg: t is the next cut after s, so the piece at s goes on at least to t
  leg : (s t : ℕ) → s < t → t ≤ span jobs → t ≤ (piece_at c s).to.time → Leg steps jobs c s t
  unfolding slow_at done_by fast_at
  leg s t l k b =
      let ol = on_piece steps jobs c d (omega arith) s in
      let om = on_piece steps jobs c d (omega arith) t in
      let n = next_piece steps jobs c d s t (omega arith) b in
      let u = leg_turn s t (piece_at c s) (piece_at c t) ol om n in
      let g = done_grows steps d.lawful jobs (piece_at c s) ol.straight ol.slope s t ol.begun (omega arith) b in
      record {
        onward = l;
        inside = k;
        fits = g.0;
        grows = sym u.0 ∙ g.1;
        turn = u.1;
      }

  course_from : (s : ℕ) (ts : List ℕ) → Rises s ts → s ≤ span jobs → ((x : ℕ) → Among x (cuts jobs) → s < x → Among x ts) → ((x : ℕ) → Among x ts → x ≤ span jobs)
      → Course steps jobs c s ts
  course_from s [] r l all low =
      elim (cases_lt s (span jobs)) [
        | inl k ↦ absurd (all (span jobs) (span_cut jobs) k)
        | inr k ↦ omega arith
      ]
  course_from s (t ∷ ts) r l all low =
      let k = low t (inl refl) in
      let a = r.0 in
      let o = on_piece steps jobs c d (omega arith) s in
      let g = o.going (omega arith) in
      let b : t ≤ (piece_at c s).to.time = no_sooner (all (piece_at c s).to.time o.end_cut g) in
      (leg s t a k b, course_from t ts r.1 k (λ x m n. later x (all x m (omega arith)) n) (λ x m. low x (inr m)))
    where
      no_sooner : {x : ℕ} → Among x (t ∷ ts) → t ≤ x
      no_sooner (inl e) = omega arith
      no_sooner {x} (inr m) = let a = rises_above t ts r.1 x m in omega arith

      later : (x : ℕ) → Among x (t ∷ ts) → t < x → Among x ts
      later x (inl e) n = absurd (omega arith)
      later x (inr m) n = m

  -- the legs along all cuts
  pub course : (rest : List ℕ) × (cuts jobs ≡ 0 ∷ rest) × Rises 0 rest × Course steps jobs c 0 rest
  course = along (cuts_rooted jobs)
    where
      along : (rest : List ℕ) × (cuts jobs ≡ 0 ∷ rest) × Rises 0 rest → (rest : List ℕ) × (cuts jobs ≡ 0 ∷ rest) × Rises 0 rest × Course steps jobs c 0 rest
      along (rest, e, r) = (
        rest,
        e,
        r,
        course_from 0 rest r (omega arith)
            (λ x m l. past x l (subst (Among x) e m))
            (λ x m. cut_in_span jobs d.ordered x (subst (Among x) (sym e) (inr m))),
      )
        where
          past : (x : ℕ) → 0 < x → Among x (0 ∷ rest) → Among x rest
          past x l (inl f) = absurd (omega arith)
          past x l (inr m) = m

-- at the start nothing is done, at the end everything
done_start_none : (steps : List Step) → done_by steps [] 0 ≡ 0
unfolding done_by piece_at piece_from done_at height_on run
done_start_none steps = nothing_done 0 (gap steps (slow_step steps (record { from = start; to = start })))

pub done_start : (steps : List Step) (jobs : List Job) (c : List Point) → Drawable steps jobs c → done_by steps c 0 ≡ 0
unfolding done_by piece_at
done_start steps jobs [] d = done_start_none steps
done_start steps jobs (q ∷ qs) d =
    let b = kept_before_end jobs start q qs d.kept in
    let o = on_piece steps jobs (q ∷ qs) d (omega arith) 0 in
    let e = piece_first start q qs 0 (omega arith) in
    let et : (piece_at (q ∷ qs) 0).from.time ≡ 0 = ap (λ (x : Piece). x.from.time) e in
    let eh : (piece_at (q ∷ qs) 0).from.height ≡ 0 = ap (λ (x : Piece). x.from.height) e in
    let k = slow_known steps d.lawful (piece_at (q ∷ qs) 0) in
    let f = done_first steps d.lawful jobs (piece_at (q ∷ qs) 0) o.straight (slow_step steps (piece_at (q ∷ qs) 0)) k in
    let g = ap (done_at (piece_at (q ∷ qs) 0) (gap steps (slow_step steps (piece_at (q ∷ qs) 0)))) et in
    omega arith

pub done_end : (steps : List Step) (jobs : List Job) (c : List Point) → Drawable steps jobs c → done_by steps c (span jobs) ≡ unit * total jobs
unfolding done_by
done_end steps jobs [] d =
    let z = done_start_none steps in
    let e = ap (done_by steps []) d.kept.0 in
    let f = d.kept.1 in
    omega arith
done_end steps jobs (q ∷ qs) d =
    let b = kept_before_end jobs start q qs d.kept in
    let o = on_piece steps jobs (q ∷ qs) d (omega arith) (span jobs) in
    let (et, eh) = o.ended refl in
    let k = slow_known steps d.lawful (piece_at (q ∷ qs) (span jobs)) in
    let e = done_last steps d.lawful jobs (piece_at (q ∷ qs) (span jobs)) o.straight (slow_step steps (piece_at (q ∷ qs) (span jobs))) k in
    let f = ap (done_at (piece_at (q ∷ qs) (span jobs)) (gap steps (slow_step steps (piece_at (q ∷ qs) (span jobs))))) et in
    omega arith
