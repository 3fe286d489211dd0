-- The sweep along all times at which a wall puts a point gives corners that keep the law.
-- At the end both walls put the same point, so seen from the last apex both chains start in its direction, and the last piece runs straight to it.
use Rattle.std.proofs.Common.{◌≡◌, ℕ, ◌<◌, ◌≤◌, Bool, true, false, not, eqb, ◌⊎◌, List, [], ◌∷◌, length, sym, refl, ap, subst, inl, inr, arith}
use Rattle.std.proofs.lemmas.Bool.{or_right, eq-eqb}
use Rattle.model.specs.Jobs.{span, total, arrives}
use Rattle.model.specs.Path.{finish}
use Rattle.model.specs.declared.job.Job.{Job}
use Rattle.model.specs.declared.point.Point.{Point}
use Rattle.theory.proofs.Law.{Kept}
use Rattle.theory.proofs.Levels.{Timely, floor_last, ceiling_last, ceiling_le_total, due_at_span}
use Rattle.theory.proofs.Slopes.{Before, before_flip, before_flip_back, before_through}
use Rattle.theory.proofs.Edges.{Inside, Clear, straight_edge, stake_inside}
use Rattle.theory.proofs.Hulls.{Staked, Bare}
use Rattle.theory.proofs.Passing.{OnFirst, next, Sound, Ahead, Leaves}
use Rattle.theory.proofs.Reaching.{Taken, reach_sound}
use Rattle.theory.specs.Sweep.{wall, mark, stake, reach, sweep_from}

-- the times ahead of n: rising, up to the end, with every time at which a wall puts a point among them
abbrev pub Times : List Job → ℕ → List ℕ → Type 0
Times jobs n [] = n ≡ span jobs
Times jobs n (t ∷ ts) = (n < t) × (t ≤ span jobs) × ((up : Bool) → Bare up jobs n t) × Times jobs t ts

-- the same seen from the other wall
swap_apart : (up : Bool) (p : Point) (own other : List Point) → OnFirst (λ c. OnFirst (λ o. Before up p c o) own) other → OnFirst (λ o. OnFirst (λ c. Before (not up) p o c) other) own
swap_apart up p [] other a = tt
swap_apart up p (o ∷ os) [] a = tt
swap_apart up p (o ∷ os) (c ∷ cs) a = before_flip up p c o a

swap : (up : Bool) (jobs : List Job) (n m : ℕ) (p : Point) (own other : List Point) → Sound up jobs n m p own other → Sound (not up) jobs m n p other own
swap true jobs n m p own other s = record { near = s.far; far = s.near; apart = swap_apart true p own other s.apart; within = s.within; by_near = s.by_far; by_far = s.by_near }
swap false jobs n m p own other s = record { near = s.far; far = s.near; apart = swap_apart false p own other s.apart; within = s.within; by_near = s.by_far; by_far = s.by_near }

swap_leaves : (up : Bool) (p : Point) (own other : List Point) (q : Point) → Leaves up p own other q → Leaves (not up) p other own q
swap_leaves true p own other q v = record { ahead = v.ahead; in_own = v.in_other; in_other = v.in_own }
swap_leaves false p own other q v = record { ahead = v.ahead; in_own = v.in_other; in_other = v.in_own }

-- the end is a point of both walls
pub finish_is : (up : Bool) (jobs : List Job) → Timely jobs → finish jobs ≡ stake up jobs (span jobs)
unfolding finish stake wall
finish_is true jobs h = ap (λ (y : ℕ). record { time = span jobs; height = y }) (sym (ceiling_last jobs h))
finish_is false jobs h = ap (λ (y : ℕ). record { time = span jobs; height = y }) (sym (floor_last jobs (span jobs) (omega arith)))

pub finish_marked : (up : Bool) (jobs : List Job) → 0 < span jobs → mark up jobs (span jobs) ≡ true
unfolding mark
finish_marked true jobs l = or_right (arrives jobs (span jobs)) (eqb (span jobs) (span jobs)) (eq-eqb (span jobs) (span jobs) refl)
finish_marked false jobs l = due_at_span jobs l

-- seen from the last apex the end is inward of all points of a wall
module _ (jobs : List Job) (h : Timely jobs) (p : Point) (l : p.time < span jobs) where
  -- the first point of each chain is inward of the end
  chain_end : (up : Bool) (q : Point) → Staked up jobs (span jobs) p q → Before up p q (finish jobs)
  chain_end up q s = rw (finish_is up jobs h) (s.first (span jobs) l (omega arith) (finish_marked up jobs (omega arith)))

  end_inward : (up : Bool) (own other : List Point) → Sound up jobs (span jobs) (span jobs) p own other
      → OnFirst (λ o. Before up p (finish jobs) o) own × ((t : ℕ) → p.time < t → t ≤ span jobs → mark up jobs t ≡ true → Before up p (finish jobs) (stake up jobs t))
  end_inward up [] other s = absurd (s.near (span jobs) l (omega arith) (finish_marked up jobs (omega arith)))
  end_inward up (o ∷ os) [] s = absurd (s.far (span jobs) l (omega arith) (finish_marked (not up) jobs (omega arith)))
  end_inward up (o ∷ os) (c ∷ cs) s =
      let a = before_flip_back up p c (finish jobs) (chain_end (not up) c s.far.0) in
      let b = before_through up p (finish jobs) c o s.far.0.onward a s.apart in
      (b, λ t j k e. before_through up p (finish jobs) o (stake up jobs t) s.near.0.onward b (s.near.0.first t j k e))

  end_ahead : Inside jobs p → Ahead p (finish jobs)
  unfolding finish
  end_ahead i = let a = i.under in let b = ceiling_le_total jobs p.time in record { onward = l; level = omega arith }

  end_inside : Inside jobs (finish jobs)
  end_inside = rw (finish_is true jobs h) (stake_inside true jobs (stake true jobs (span jobs)) h on)
    where
      on : (stake true jobs (span jobs)).height ≡ wall true jobs (stake true jobs (span jobs)).time
      on = unfold stake in refl

  last_piece : (upper lower : List Point) → Sound true jobs (span jobs) (span jobs) p upper lower
      → Kept jobs p (finish jobs ∷ []) × Leaves true p upper lower (finish jobs)
  last_piece upper lower s =
      let a = end_inward true upper lower s in
      let b = end_inward false lower upper (swap true jobs (span jobs) (span jobs) p upper lower s) in
      let c = end_ahead s.within in (
        (straight_edge jobs p (finish jobs) c.onward c.level s.within end_inside (clear a.1 b.1), ends.0, ends.1),
        record { ahead = c; in_own = a.0; in_other = b.0 },
      )
    where
      ends : ((finish jobs).time ≡ span jobs) × ((finish jobs).height ≡ total jobs)
      ends = unfold finish in (refl, refl)

      in_time : (t : ℕ) → t < (finish jobs).time → t ≤ span jobs
      in_time t = unfold finish in λ o. omega arith

      clear : ((t : ℕ) → p.time < t → t ≤ span jobs → mark true jobs t ≡ true → Before true p (finish jobs) (stake true jobs t))
          → ((t : ℕ) → p.time < t → t ≤ span jobs → mark false jobs t ≡ true → Before false p (finish jobs) (stake false jobs t)) → (up : Bool) → Clear up jobs p (finish jobs)
      clear a b true = λ t j k e. a t j (in_time t k) e
      clear a b false = λ t j k e. b t j (in_time t k) e

pub sweep_from_kept : (jobs : List Job) → Timely jobs → (n : ℕ) (ts : List ℕ) (p : Point) (upper lower : List Point) → Times jobs n ts → Sound true jobs n n p upper lower
    → (p.time < n) ⊎ (0 < length ts)
    → Kept jobs p (sweep_from jobs p upper lower ts) × Leaves true p upper lower (next (sweep_from jobs p upper lower ts))
unfolding sweep_from
sweep_from_kept jobs h n [] p upper lower e s (inl l) = last_piece jobs h p (omega arith) upper lower (subst (λ (y : ℕ). Sound true jobs y y p upper lower) e s)
sweep_from_kept jobs h n [] p upper lower e s (inr l) = absurd (omega arith)
sweep_from_kept jobs h n (t ∷ ts) p upper lower (l, b, bare, r) s k =
    let f = reach false jobs t p lower upper in
    let c = reach true jobs t f.apex f.other f.own in
    let x : Taken false jobs t n p lower upper f = reach_sound false jobs h n n t l (omega arith) b (bare false) p lower upper (swap true jobs n n p upper lower s) in
    let y : Taken true jobs t t f.apex f.other f.own c = reach_sound true jobs h n t t l (omega arith) b (bare true) f.apex f.other f.own (swap false jobs t n f.apex f.own f.other x.sound) in
    let (u, v) = sweep_from_kept jobs h t ts c.apex c.own c.other r y.sound (inl y.early) in
    let (i, j) = y.join _ u v in
    let (g, w) = x.join _ i (swap_leaves true f.apex f.other f.own _ j) in
    (g, swap_leaves false p lower upper _ w)
