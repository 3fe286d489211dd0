-- What holds while a plan is drawn: the runs drawn so far with those still to come give the plan, and so do their energies.
use Rattle.std.proofs.Common.{◌≡◌, ℕ, suc, ◌+◌, ◌*◌, ◌<◌, ◌≤◌, List, [], ◌∷◌, ◌++◌, length, get_or, drop, sym, refl, ap, ◌∙◌, subst, ap₂, subst₂, arith}
use Rattle.model.specs.Sums.{sum_of}
use Rattle.model.specs.Jobs.{total, span, cuts}
use Rattle.model.specs.Path.{piece_at}
use Rattle.model.specs.Plan.{stretch, stretches, joined, energy, ticks_of}
use Rattle.model.specs.declared.job.Job.{Job}
use Rattle.model.specs.declared.point.Point.{Point}
use Rattle.model.specs.declared.segment.Segment.{Segment}
use Rattle.model.specs.declared.step.Step.{Step}
use Rattle.theory.proofs.Cuts.{cut_in_span}
use Rattle.theory.proofs.Runs.{energy_joined}
use Rattle.theory.proofs.Drawn.{Drawable, drawn}
use Rattle.draw.specs.Gathered.{gathered, listed, Within}
use Rattle.draw.specs.Lanes.{piece_no, runs_of, Bounded, IsLane}
use Rattle.draw.specs.declared.drawing.Drawing.{Drawing}
use Rattle.draw.specs.declared.lane.Lane.{Lane}
use Rattle.draw.proofs.Adding.{gathered_all, gathered_more}
use Rattle.draw.proofs.Along.{Neighbours, Read, some_corner, span_positive, cuts_begin, cut_neighbours, stretches_more, stretches_end}
use Rattle.draw.proofs.Riding.{Stands, Rides, Ready, bounded_at, goes_on, rides_next, ready, stands_on}

-- before the stretch that begins at cut number i
pub record Going (steps : List Step) (jobs : List Job) (c : List Point) (i : ℕ) (l : Lane) (d : Drawing) : Type 0 where
  pub lane : IsLane steps c l.number l
  pub stands : Stands c l.number (get_or (cuts jobs) i 0)
  pub plan : gathered (listed d) (stretches steps c (drop i (cuts jobs))) ≡ drawn steps jobs c
  pub spent : d.energy + energy steps (stretches steps c (drop i (cuts jobs))) ≡ energy steps (drawn steps jobs c)
  pub within : Within (get_or (cuts jobs) i 0) d
  pub few : d.count ≤ 2 * i

energy_more : (steps : List Step) (xs ys : List Segment) → energy steps (xs ++ ys) ≡ energy steps xs + energy steps ys
unfolding energy sum_of
energy_more steps [] ys = omega arith
energy_more steps (x ∷ xs) ys = let e = energy_more steps xs ys in omega arith

module _ {steps : List Step} {jobs : List Job} {c : List Point} (d : Drawable steps jobs c) (short : span jobs ≤ 200000) (light : total jobs ≤ 256000000) where
  pub corners_there : 0 < length jobs → 0 < length c
  corners_there l = some_corner jobs c d.kept (span_positive jobs d.ordered l)

  pub bounded_first : 0 < length jobs → Bounded (piece_no c 0)
  bounded_first l = bounded_at steps jobs c d short light (span_positive jobs d.ordered l) 0 (corners_there l)

  pub going_start : (l : Lane) (r : Drawing) → 0 < length jobs → IsLane steps c 0 l → listed r ≡ [] → r.count ≡ 0 → r.energy ≡ 0 → Going steps jobs c 0 l r
  unfolding drawn ticks_of sum_of
  going_start l r some e none bare free =
      let z = (cuts_begin jobs).0 in
      record {
        lane = subst (λ (n : ℕ). IsLane steps c n l) (sym e.number) e;
        stands = subst₂ (Stands c) (sym e.number) (sym z) (record { known = corners_there some; begun = omega arith; going = omega arith });
        plan = ap (λ (x : List Segment). gathered x (stretches steps c (cuts jobs))) none ∙ gathered_all (stretches steps c (cuts jobs));
        spent = let a = energy_joined steps (stretches steps c (cuts jobs)) in omega arith;
        within = record { ticks = let a = ap ticks_of none in omega arith; spent = omega arith };
        few = omega (arith, bare);
      }

  module _ {i : ℕ} {l : Lane} {r : Drawing} (g : Going steps jobs c i l r) {s t : ℕ} (read : Read jobs i s t) where
    near : Neighbours (cuts jobs) s t
    near = subst₂ (Neighbours (cuts jobs)) (sym read.here) (sym read.after) (cut_neighbours jobs i read.more)

    stands_here : Stands c l.number s
    stands_here = subst (Stands c l.number) (sym read.here) g.stands

    pub before_end : s < span jobs
    before_end = let a = near.onward in let b = cut_in_span jobs d.ordered t near.there in omega arith

    pub can_advance : l.to.time ≤ s → (suc l.number < length c) × Bounded (piece_no c (suc l.number))
    can_advance m =
        let b = before_end in
        let k = goes_on steps jobs c d short light l s g.lane stands_here b m in
        (k, bounded_at steps jobs c d short light (omega arith) (suc l.number) k)

    module _ {m : Lane} (ended : l.to.time ≤ s → IsLane steps c (suc l.number) m) (going : s < l.to.time → m ≡ l) where
      rides : IsLane steps c m.number m × Rides c m.number s
      rides = rides_next steps jobs c d short light l m s g.lane stands_here before_end ended going

      pub can_draw : (s < t) × Ready steps c s t m × Within s r
      can_draw =
          (near.onward, ready steps jobs c d short light m s t rides.0 rides.1 near, subst (λ (x : ℕ). Within x r) (sym read.here) g.within)

      pub going_next : (q : Drawing) → listed q ≡ gathered (listed r) (runs_of m s t) → q.count ≤ r.count + 2
          → q.energy ≡ r.energy + energy steps (runs_of m s t) → Within t q → Going steps jobs c (suc i) m q
      going_next q er ec ee w =
          let runs : runs_of m s t ≡ stretch steps (piece_at c (get_or (cuts jobs) i 0)) (get_or (cuts jobs) i 0) (get_or (cuts jobs) (suc i) 0) =
          can_draw.1.runs ∙ ap₂ (λ (x y : ℕ). stretch steps (piece_at c x) x y) read.here read.after in
          let parts : stretches steps c (drop i (cuts jobs)) ≡ runs_of m s t ++ stretches steps c (drop (suc i) (cuts jobs)) =
          stretches_more steps c (cuts jobs) i read.more ∙ ap (λ (x : List Segment). x ++ stretches steps c (drop (suc i) (cuts jobs))) (sym runs) in
          let e1 = ap (energy steps) parts in
          let e2 = energy_more steps (runs_of m s t) (stretches steps c (drop (suc i) (cuts jobs))) in
          let e3 = g.spent in
          let few = g.few in
          record {
            lane = rides.0;
            stands = subst (Stands c m.number) read.after (stands_on steps jobs c d short light m s t rides.0 rides.1 near);
            plan =
                ap (λ (x : List Segment). gathered x (stretches steps c (drop (suc i) (cuts jobs)))) er
                ∙ (sym (gathered_more (listed r) (runs_of m s t) (stretches steps c (drop (suc i) (cuts jobs))))
                ∙ (ap (gathered (listed r)) (sym parts) ∙ g.plan));
            spent = omega arith;
            within = subst (λ (x : ℕ). Within x q) read.after w;
            few = omega arith;
          }

  pub going_end : {i : ℕ} {l : Lane} {r : Drawing} → Going steps jobs c i l r → length (cuts jobs) ≤ suc i
      → (listed r ≡ drawn steps jobs c) × (r.energy ≡ energy steps (drawn steps jobs c))
  unfolding gathered energy sum_of
  going_end {i} {l} {r} g m =
      let e = stretches_end steps c (cuts jobs) i m in
      let a = ap (energy steps) e in
      let b = g.spent in
      (sym (ap (gathered (listed r)) e) ∙ g.plan, omega arith)

-- without jobs there is nothing to draw
pub nothing_drawn : (steps : List Step) (jobs : List Job) (c : List Point) → length jobs ≡ 0 → drawn steps jobs c ≡ []
unfolding drawn cuts stretches joined
nothing_drawn steps [] c e = refl
nothing_drawn steps (j ∷ js) c e = absurd (omega arith)
