-- The sweep: one pass along the cuts that finds the corners of the path of a list of jobs.
--
-- From the last corner found, the apex, two chains of points lead on: the upper one along points of the ceiling, bent so that its slopes rise,
-- the lower one along points of the floor, bent so that its slopes fall. The path leaves the apex between them.
-- A new point of a wall is put at the end of that wall's chain, and what it makes needless there is dropped (`tighten`).
-- If nothing but the new point is left, the way to it may cut across the other chain: then the first point of the other chain is a corner of the path
-- and the new apex, and the question is put again from there (`pass`).
-- The two walls differ only in which of two heights is the inward one, so all but `inner`, `wall` and `mark` is one text for both.
--
-- A chain is pushed at its end and popped at both ends, and each point is pushed once, so the whole takes linear time.
use Rattle.std.specs.Prelude.{ℕ, ◌+◌, ◌*◌, Bool, true, false, cond, ◌||◌, List, [], ◌∷◌, ◌++◌, drop, ◌==◌, nat_lt}
use Rattle.model.specs.Jobs.{span, ceiling, floor, arrives, due, cuts}
use Rattle.model.specs.Path.{start, finish, run}
use Rattle.model.specs.declared.job.Job.{Job}
use Rattle.model.specs.declared.point.Point.{Point}

-- a wall is named by whether it is the upper one; whether, at that wall, the first height is strictly inward of the second
unfoldable pub inner : Bool → ℕ → ℕ → Bool
inner true a b = nat_lt a b
inner false a b = nat_lt b a

-- the height of a wall
unfoldable pub wall : Bool → List Job → ℕ → ℕ
wall true jobs t = ceiling jobs t
wall false jobs t = floor jobs t

-- whether a wall puts a point at time t: the ceiling at arrivals and at the end, the floor at deadlines
unfoldable pub mark : Bool → List Job → ℕ → Bool
mark true jobs t = arrives jobs t || t == span jobs
mark false jobs t = due jobs t

-- that point
unfoldable pub stake : Bool → List Job → ℕ → Point
stake up jobs t = record { time = t; height = wall up jobs t }

-- whether, seen from p, the point q lies strictly inward of r: a comparison of two slopes that may be negative, so nothing is subtracted but times
unfoldable pub inward : (ℕ → ℕ → Bool) → Point → Point → Point → Bool
inward in-of p q r = in-of (q.height * run p r + p.height * run p q) (r.height * run p q + p.height * run p r)

-- a chain from p with the point x put at its end: its points are kept as long as each lies inward of x, seen from the one before
unfoldable pub tighten : (ℕ → ℕ → Bool) → Point → List Point → Point → List Point
tighten in-of p [] x = x ∷ []
tighten in-of p (q ∷ qs) x = cond (inward in-of p q x) (q ∷ tighten in-of q qs x) (x ∷ [])

-- the corners found on the way from p to x along the other wall's chain, the apex after them, and what is left of that chain
pub record Passed : Type 0 where
  pub out : List Point
  pub apex : Point
  pub rest : List Point

unfoldable pub pass : (ℕ → ℕ → Bool) → Point → Point → List Point → Passed
pass in-of x p [] = record { out = []; apex = p; rest = [] }
pass in-of x p (c ∷ cs) =
    cond (inward in-of p x c)
    (record { out = c ∷ (pass in-of x c cs).out; apex = (pass in-of x c cs).apex; rest = (pass in-of x c cs).rest })
    (record { out = []; apex = p; rest = c ∷ cs })

-- the corners found when a wall's point came in, the apex after them, that wall's chain and the other's
pub record Funnel : Type 0 where
  pub out : List Point
  pub apex : Point
  pub own : List Point
  pub other : List Point

-- whether a chain has one point
unfoldable pub alone : List Point → Bool
alone [] = false
alone (q ∷ []) = true
alone (q ∷ (r ∷ rs)) = false

-- the point x of a wall comes in
unfoldable pub take_in : (ℕ → ℕ → Bool) → Point → List Point → List Point → Point → Funnel
take_in in-of p own other x =
    cond (alone (tighten in-of p own x))
    (record { out = (pass in-of x p other).out; apex = (pass in-of x p other).apex; own = x ∷ []; other = (pass in-of x p other).rest })
    (record { out = []; apex = p; own = tighten in-of p own x; other = other })

-- the sweep gets to time t, where a wall may put a point
unfoldable pub reach : Bool → List Job → ℕ → Point → List Point → List Point → Funnel
reach up jobs t p own other =
    cond (mark up jobs t)
    (take_in (inner up) p own other (stake up jobs t))
    (record { out = []; apex = p; own = own; other = other })

-- the corners still to be found from the apex p with its two chains, along the times ahead: at each the floor's point comes in first
unfoldable pub sweep_from : List Job → Point → List Point → List Point → List ℕ → List Point
sweep_from jobs p upper lower [] = finish jobs ∷ []
sweep_from jobs p upper lower (t ∷ ts) =
    let f = reach false jobs t p lower upper in
    let c = reach true jobs t f.apex f.other f.own in
    f.out ++ (c.out ++ sweep_from jobs c.apex c.own c.other ts)

-- all corners: the sweep starts at the start with no points, and goes along the cuts after time 0
unfoldable pub sweep : List Job → List Point
sweep [] = []
sweep (j ∷ js) = sweep_from (j ∷ js) start [] [] (drop 1 (cuts (j ∷ js)))
