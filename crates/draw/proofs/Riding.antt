-- A lane at a time: moving on to the lane that holds the time after it, and what makes that lane ready to be drawn up to the next cut.
use Rattle.std.proofs.Common.{◌≡◌, ℕ, suc, ◌<◌, ◌≤◌, List, length, sym, ap, ◌∙◌, subst, inl, inr, le_refl, le_of_mul-le-mul_right, arith}
use Rattle.std.proofs.lemmas.Bool.{cases_lt}
use Rattle.model.specs.Jobs.{total, span, ceiling, cuts}
use Rattle.model.specs.Path.{run, Piece, piece_at}
use Rattle.model.specs.Plan.{ticks_between, fast_ticks, stretch}
use Rattle.model.specs.declared.job.Job.{Job}
use Rattle.model.specs.declared.point.Point.{Point}
use Rattle.model.specs.declared.step.Step.{Step}
use Rattle.theory.proofs.Law.{Straight}
use Rattle.theory.proofs.Cuts.{cut_in_span}
use Rattle.theory.proofs.Levels.{ceiling_le_total}
use Rattle.theory.proofs.Rounds.{height_last, done_grows}
use Rattle.theory.proofs.Drawn.{Drawable, On, on_piece}
use Rattle.draw.specs.Lanes.{begin_at, end_at, piece_no, fast_of, runs_of, Bounded, IsLane}
use Rattle.draw.specs.declared.lane.Lane.{Lane}
use Rattle.draw.proofs.Along.{onward_at, more_after, piece_at_is, Neighbours}

-- time s lies on piece number k, its end included
pub record Stands (c : List Point) (k s : ℕ) : Type 0 where
  pub known : k < length c
  pub begun : (begin_at c k).time ≤ s
  pub going : s ≤ (end_at c k).time

-- and before its end
pub record Rides (c : List Point) (k s : ℕ) : Type 0 where
  pub known : k < length c
  pub begun : (begin_at c k).time ≤ s
  pub going : s < (end_at c k).time

-- all that drawing from s to t on a lane asks, and that it draws the stretch
pub record Ready (steps : List Step) (c : List Point) (s t : ℕ) (l : Lane) : Type 0 where
  pub begun : l.from.time ≤ s
  pub going : t ≤ l.to.time
  pub fits : fast_of l s t ≤ ticks_between s t
  pub runs : runs_of l s t ≡ stretch steps (piece_at c s) s t

-- a straight piece ends no higher than all the work
end_low : (jobs : List Job) (p q : Point) → Straight jobs p q → q.height ≤ total jobs
unfolding run
end_low jobs p q s =
    let o = s.onward in
    let a = s.below q.time (omega arith) (omega arith) in
    let b = height_last p q in
    let c = le_of_mul-le-mul_right {m = q.height} {n = ceiling jobs q.time} {k = run p q} (omega arith) (omega arith) in
    let d = ceiling_le_total jobs q.time in
    omega arith

-- what is drawn on a lane is what is drawn on its piece
fast_is : (steps : List Step) (c : List Point) (k : ℕ) (l : Lane) → IsLane steps c k l → (s t : ℕ) → fast_of l s t ≡ fast_ticks steps (piece_no c k) s t
unfolding fast_of fast_ticks
fast_is steps c k l e s t =
    let a = e.from in
    let b = e.to in
    let v = e.speed in
    let w = e.gap in
    cc

runs_are : (steps : List Step) (c : List Point) (k : ℕ) (l : Lane) → IsLane steps c k l → (s t : ℕ) → runs_of l s t ≡ stretch steps (piece_no c k) s t
unfolding runs_of stretch
runs_are steps c k l e s t = let a = e.slow in let f = fast_is steps c k l e s t in cc

module _ (steps : List Step) (jobs : List Job) (c : List Point) (d : Drawable steps jobs c) (short : span jobs ≤ 200000) (light : total jobs ≤ 256000000) where
  -- each piece is within its limits
  pub bounded_at : 0 < span jobs → (k : ℕ) → k < length c → Bounded (piece_no c k)
  bounded_at some k l =
      let o = onward_at jobs c d.kept k l in
      let on = subst (On steps jobs (begin_at c k).time) (piece_at_is jobs c d.kept k (begin_at c k).time l (le_refl (begin_at c k).time) o) (on_piece steps jobs c d some (begin_at c k).time) in
      let e = cut_in_span jobs d.ordered (end_at c k).time on.end_cut in
      let top = end_low jobs (begin_at c k) (end_at c k) on.straight in
      let up = on.straight.level in
      record { onward = o; soon = omega arith; low = omega arith; high = omega arith }

  -- where a piece has ended before the end of the path there is another
  pub goes_on : (l : Lane) (s : ℕ) → IsLane steps c l.number l → Stands c l.number s → s < span jobs → l.to.time ≤ s → suc l.number < length c
  goes_on l s e st b m =
      let a = ap (λ (x : Point). x.time) e.to in
      more_after jobs c d.kept l.number st.known (omega arith)

  -- after moving on, the lane holds the time after s
  pub rides_next : (l m : Lane) (s : ℕ) → IsLane steps c l.number l → Stands c l.number s → s < span jobs
      → (l.to.time ≤ s → IsLane steps c (suc l.number) m) → (s < l.to.time → m ≡ l) → IsLane steps c m.number m × Rides c m.number s
  rides_next l m s e st b ended going =
      let a = ap (λ (x : Point). x.time) e.to in
      elim (cases_lt s l.to.time) [
        | inl o ↦
            subst (λ (x : Lane). IsLane steps c x.number x × Rides c x.number s) (sym (going o))
            (e, record { known = st.known; begun = st.begun; going = omega arith })
        | inr o ↦
            let k = goes_on l s e st b o in
            let w = onward_at jobs c d.kept (suc l.number) k in
            let z = st.going in
            subst (λ (n : ℕ). IsLane steps c n m × Rides c n s) (sym (ended o).number)
            (ended o, record { known = k; begun = omega arith; going = omega arith })
      ]

  -- it is then ready to be drawn
  pub ready : (l : Lane) (s t : ℕ) → IsLane steps c l.number l → Rides c l.number s → Neighbours (cuts jobs) s t → Ready steps c s t l
  ready l s t e r n =
      let k = l.number in
      let a = n.onward in
      let b = cut_in_span jobs d.ordered t n.there in
      let q = piece_at_is jobs c d.kept k s r.known r.begun r.going in
      let on = subst (On steps jobs s) q (on_piece steps jobs c d (omega arith) s) in
      let last : t ≤ (end_at c k).time = n.next (end_at c k).time on.end_cut r.going in
      let fits = (done_grows steps d.lawful jobs (piece_no c k) on.straight on.slope s t r.begun (omega arith) last).0 in
      let f = fast_is steps c k l e s t in
      let x = ap (λ (y : Point). y.time) e.from in
      let y = ap (λ (y : Point). y.time) e.to in
      record {
        begun = let h = r.begun in omega arith;
        going = omega arith;
        fits = omega arith;
        runs = runs_are steps c k l e s t ∙ ap (λ (p : Piece). stretch steps p s t) (sym q);
      }

  -- and it still stands at t
  pub stands_on : (l : Lane) (s t : ℕ) → IsLane steps c l.number l → Rides c l.number s → Neighbours (cuts jobs) s t → Stands c l.number t
  stands_on l s t e r n =
      let a = n.onward in
      let b = r.begun in
      let q = (ready l s t e r n).going in
      let f = ap (λ (x : Point). x.time) e.to in
      record { known = r.known; begun = omega arith; going = omega arith }
