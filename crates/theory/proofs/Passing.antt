-- One point of a wall comes in: the state of the sweep stays sound, and the corners that it finds keep the law.
--
-- Sound is: both chains are hulls of their walls from the apex on, and seen from the apex the lower chain's first point is not above the upper chain's first.
-- What the corners still to be found must satisfy is said of any list l that keeps the law from the new apex on and leaves it between the chains:
-- then the corners found and after them l keep the law from the old apex on and leave that between the old chains.
-- A corner c found because of x lies on the other chain. The wall's older points are outward of c, seen from the old apex, and x is inward of it,
-- so from c on x is inward of them all, and so is the next point of the other chain: the same argument goes on from c.
use Rattle.std.proofs.Common.{◌≡◌, ℕ, ◌<◌, ◌≤◌, Bool, true, false, not, ◌⊎◌, List, [], ◌∷◌, ◌++◌, sym, refl, ap, subst, inl, inr, arith}
use Rattle.std.proofs.lemmas.Bool.{cases_lt, cases_Bool, cond-true, cond-false}
use Rattle.model.specs.Jobs.{span}
use Rattle.model.specs.Path.{start}
use Rattle.model.specs.declared.job.Job.{Job}
use Rattle.model.specs.declared.point.Point.{Point}
use Rattle.theory.proofs.Law.{Straight, Turns, Kept}
use Rattle.theory.proofs.Levels.{Timely}
use Rattle.theory.proofs.Slopes.{Before, before_flip, before_flip_back, before_moved, before_carried, inward_true, inward_false}
use Rattle.theory.proofs.Edges.{Inside, Clear, straight_edge, wall_turn, stake_inside, walls_apart, corner_level}
use Rattle.theory.proofs.Hulls.{Staked, Hull, hull_lone}
use Rattle.theory.specs.Sweep.{inner, inward, wall, mark, stake, Passed, pass}

-- a fact about the first point of a list, if it has one
abbrev pub OnFirst : (Point → Type 0) → List Point → Type 0
OnFirst P [] = Unit
OnFirst P (q ∷ qs) = P q

-- the first point of a list
abbrev pub next : List Point → Point
next [] = start
next (q ∷ qs) = q

-- a sound state, for the wall that `up` names: its own points are known up to n, the other's up to m
pub record Sound (up : Bool) (jobs : List Job) (n m : ℕ) (p : Point) (own other : List Point) : Type 0 where
  pub near : Hull up jobs n p own
  pub far : Hull (not up) jobs m p other
  pub apart : OnFirst (λ c. OnFirst (λ o. Before up p c o) own) other
  pub within : Inside jobs p
  pub by_near : p.time ≤ n
  pub by_far : p.time ≤ m

-- the path goes on from p to q, not down
pub record Ahead (p q : Point) : Type 0 where
  pub onward : p.time < q.time
  pub level : p.height ≤ q.height

-- and leaves p between the chains
pub record Leaves (up : Bool) (p : Point) (own other : List Point) (q : Point) : Type 0 where
  pub ahead : Ahead p q
  pub in_own : OnFirst (λ o. Before up p q o) own
  pub in_other : OnFirst (λ c. Before (not up) p q c) other

-- one more corner in front of a path that keeps the law
kept_more : (jobs : List Job) (p c : Point) (l : List Point) → Straight jobs p c → Turns jobs p c (next l) → Kept jobs c l → Kept jobs p (c ∷ l)
kept_more jobs p c [] s w k = (s, k.0, k.1)
kept_more jobs p c (q ∷ l) s w k = (s, w, k)

-- a fact about both walls
both : (up : Bool) (P : Bool → Type 0) → P up → P (not up) → (s : Bool) → P s
both true P a b true = a
both true P a b false = b
both false P a b true = b
both false P a b false = a

-- where the path leaves p when a wall's point x came in alone: to the other chain's first point, which is a corner, or between the two
abbrev pub Chosen : Bool → Point → Point → List Point → Point → Type 0
Chosen up p x [] q = Leaves up p (x ∷ []) [] q
Chosen up p x (c ∷ cs) q = ((q ≡ c) × Ahead p c) ⊎ Leaves up p (x ∷ []) (c ∷ cs) q

pub record Passes (up : Bool) (jobs : List Job) (m x : ℕ) (p : Point) (other : List Point) (r : Passed) : Type 0 where
  pub sound : Sound up jobs x m r.apex (stake up jobs x ∷ []) r.rest
  pub early : r.apex.time < x
  pub join : (l : List Point) → Kept jobs r.apex l → Leaves up r.apex (stake up jobs x ∷ []) r.rest (next l)
      → Kept jobs p (r.out ++ l) × Chosen up p (stake up jobs x) other (next (r.out ++ l))

-- the other chain's first point is inward of the wall's points before x
abbrev pub Seen : Bool → List Job → ℕ → Point → Point → Type 0
Seen up jobs x p c = (t : ℕ) → p.time < t → t < x → mark up jobs t ≡ true → Before up p c (stake up jobs t)

-- a point on a wall is the wall's point at its time
pub stake_is : (up : Bool) (jobs : List Job) (q : Point) → q.height ≡ wall up jobs q.time → stake up jobs q.time ≡ q
unfolding stake
stake_is up jobs q e = ap (λ (y : ℕ). record { time = q.time; height = y }) (sym e)

module _ (up : Bool) (jobs : List Job) (h : Timely jobs) (m x : ℕ) (by : m ≤ x) (end : x ≤ span jobs) (is : mark up jobs x ≡ true) where
  -- no corner is found
  stays : (p : Point) (other : List Point) → p.time < x → p.time ≤ m → Inside jobs p → Seen up jobs x p (stake up jobs x) → Hull (not up) jobs m p other
      → OnFirst (λ c. Before up p c (stake up jobs x)) other → Sound up jobs x m p (stake up jobs x ∷ []) other
  stays p [] o k i s f a = record { near = hull_lone up jobs x p o is s; far = f; apart = tt; within = i; by_near = omega arith; by_far = k }
  stays p (c ∷ cs) o k i s f a = record { near = hull_lone up jobs x p o is s; far = f; apart = a; within = i; by_near = omega arith; by_far = k }

  -- one corner is found, from the facts about what follows it
  module _ (p c : Point) (cs : List Point) (o : p.time < x) (i : Inside jobs p) (f : Hull (not up) jobs m p (c ∷ cs)) (s : Seen up jobs x p c)
      (w : inward (inner up) p (stake up jobs x) c ≡ true) where
    before_x : c.time < x
    before_x = let k = f.0.known in
        elim (cases_lt c.time x) [ inl l ↦ l | inr l ↦ absurd (walls_apart up jobs p c x h f.0.on_wall w (omega arith)) ]

    x_inward : Before up p (stake up jobs x) c
    x_inward = inward_true up p (stake up jobs x) c w

    -- what was inward of c is inward of the wall's points, seen from c
    beyond : (g : Point) → c.time < g.time → Before up p g c → Seen up jobs x c g
    beyond g l b t k j e = let a = f.0.onward in before_moved up p c g (stake up jobs t) a l (at t k) b (s t (omega arith) j e)
      where
        at : (t : ℕ) → c.time < t → c.time < (stake up jobs t).time
        at t k = unfold stake in k

    level : p.height ≤ c.height
    level = corner_level up jobs p c x i f.0.onward o f.0.on_wall x_inward

    c_inside : Inside jobs c
    c_inside = stake_inside (not up) jobs c h f.0.on_wall

    edge : Straight jobs p c
    edge = let k = before_x in let n = f.0.known in
        straight_edge jobs p c f.0.onward level i c_inside
        (both up (λ z. Clear z jobs p c) (λ t a b e. s t a (omega arith) e) (λ t a b e. f.0.first t a (omega arith) e))

    -- a later point of the other chain, seen from p
    later : (d : Point) → Staked (not up) jobs m c d → Before (not up) p c d
    later d g =
        let a = f.0.onward in
        let b = g.onward in
        subst (λ (y : Point). Before (not up) p c y) (stake_is (not up) jobs d g.on_wall) (f.0.first d.time (omega arith) g.known g.marked)

    between : (q : Point) → c.time < q.time → Before up c q (stake up jobs x) → Before (not up) p c q
    between q l b =
        before_carried (not up) p c (stake up jobs x) q f.0.onward (at before_x) l (before_flip up p (stake up jobs x) c x_inward) (before_flip up c q (stake up jobs x) b)
      where
        at : c.time < x → c.time < (stake up jobs x).time
        at k = unfold stake in k

    -- from c the path goes on to the next point of the other chain, or between the chains: both ways inward, as the corner wants it
    onward_of : (ds : List Point) (q : Point) → Chosen up c (stake up jobs x) ds q → Hull (not up) jobs m c ds → Ahead c q × Before (not up) p c q
    onward_of [] q v g = (v.ahead, between q v.ahead.onward v.in_own)
    onward_of (d ∷ ds) q (inl (e, a)) g = (subst (λ (y : Point). Ahead c y) (sym e) a, subst (λ (y : Point). Before (not up) p c y) (sym e) (later d g.0))
    onward_of (d ∷ ds) q (inr v) g = (v.ahead, between q v.ahead.onward v.in_own)

    -- the next point of the other chain is inward of the wall's points again
    next_seen : (ds : List Point) → Hull (not up) jobs m c ds → OnFirst (Seen up jobs x c) ds
    next_seen [] g = tt
    next_seen (d ∷ ds) g = beyond d g.0.onward (before_flip_back up p c d (later d g.0))

    x_seen : Seen up jobs x c (stake up jobs x)
    x_seen = beyond (stake up jobs x) (at before_x) x_inward
      where
        at : c.time < x → c.time < (stake up jobs x).time
        at k = unfold stake in k

    found : (r : Passed) → Passes up jobs m x c cs r → Passes up jobs m x p (c ∷ cs) (record { out = c ∷ r.out; apex = r.apex; rest = r.rest })
    found r z = record {
      sound = z.sound;
      early = z.early;
      join = λ l k v.
          let (a, b) = z.join l k v in
          let (d, e) = onward_of cs (next (r.out ++ l)) b f.1 in (
            kept_more jobs p c (r.out ++ l) edge
                (wall_turn (not up) jobs p c (next (r.out ++ l)) f.0.onward d.onward level d.level f.0.on_wall f.0.marked (let y = before_x in omega arith) e) a,
            inl (refl, record { onward = f.0.onward; level = level }),
          );
    }

  pub pass_sound : (p : Point) (other : List Point) → p.time < x → p.time ≤ m → Inside jobs p → Seen up jobs x p (stake up jobs x) → Hull (not up) jobs m p other
      → OnFirst (Seen up jobs x p) other → Passes up jobs m x p other (pass (inner up) (stake up jobs x) p other)
  unfolding pass
  pass_sound p [] o k i s f a = record { sound = stays p [] o k i s f tt; early = o; join = λ l z v. (z, v) }
  pass_sound p (c ∷ cs) o k i s f a =
      elim (cases_Bool (inward (inner up) p (stake up jobs x) c)) [
        | inl w ↦ subst (λ (r : Passed). Passes up jobs m x p (c ∷ cs) r)
            (sym (cond-true _ (record { out = c ∷ (pass (inner up) (stake up jobs x) c cs).out; apex = (pass (inner up) (stake up jobs x) c cs).apex; rest = (pass (inner up) (stake up jobs x) c cs).rest }) (record { out = []; apex = p; rest = c ∷ cs }) w))
            (found p c cs o i f a w (pass (inner up) (stake up jobs x) c cs)
            (pass_sound c cs (before_x p c cs o i f a w) f.0.known (c_inside p c cs o i f a w) (x_seen p c cs o i f a w) f.1 (next_seen p c cs o i f a w cs f.1)))
        | inr w ↦ subst (λ (r : Passed). Passes up jobs m x p (c ∷ cs) r)
            (sym (cond-false _ (record { out = c ∷ (pass (inner up) (stake up jobs x) c cs).out; apex = (pass (inner up) (stake up jobs x) c cs).apex; rest = (pass (inner up) (stake up jobs x) c cs).rest }) (record { out = []; apex = p; rest = c ∷ cs }) w))
            (record { sound = stays p (c ∷ cs) o k i s f (inward_false up p (stake up jobs x) c w); early = o; join = λ l z v. (z, inr v) })
      ]
