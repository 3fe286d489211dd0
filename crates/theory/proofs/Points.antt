-- The points that the sweep holds and gives out are those that the walls put: what holds of each of those holds of all of them.
-- So every corner is a point of a wall, and bounds on the walls bound every number that the sweep works with.
use Rattle.std.proofs.Common.{◌≡◌, ℕ, suc, ◌+◌, ◌≤◌, Bool, true, false, List, [], ◌∷◌, ◌++◌, length, arith}
use Rattle.std.proofs.lemmas.Bool.{cond_both}
use Rattle.model.specs.Jobs.{total}
use Rattle.model.specs.Path.{finish}
use Rattle.model.specs.declared.job.Job.{Job}
use Rattle.model.specs.declared.point.Point.{Point}
use Rattle.theory.proofs.Levels.{floor_le_total, ceiling_le_total}
use Rattle.theory.specs.Sweep.{inward, inner, wall, mark, stake, tighten, Passed, pass, Funnel, alone, take_in, reach, sweep_from}

-- a fact about every point of a list
abbrev pub All : (Point → Type 0) → List Point → Type 0
All P [] = Unit
All P (q ∷ qs) = P q × All P qs

all_append : (P : Point → Type 0) (qs rs : List Point) → All P qs → All P rs → All P (qs ++ rs)
all_append P [] rs a b = b
all_append P (q ∷ qs) rs (x, a) b = (x, all_append P qs rs a b)

-- no wall is above the total
pub wall_le_total : (up : Bool) (jobs : List Job) (t : ℕ) → wall up jobs t ≤ total jobs
unfolding wall
wall_le_total true jobs t = ceiling_le_total jobs t
wall_le_total false jobs t = floor_le_total jobs t

-- P holds of the points that come in, and Q, which follows from it, of the apex: the start is no point of a wall
module _ (P Q : Point → Type 0) (weaker : (q : Point) → P q → Q q) where
  pub tighten_all : (in-of : ℕ → ℕ → Bool) (p : Point) (qs : List Point) (x : Point) → P x → All P qs → All P (tighten in-of p qs x)
  unfolding tighten
  tighten_all in-of p [] x a b = (a, tt)
  tighten_all in-of p (q ∷ qs) x a (c, b) = cond_both (inward in-of p q x) _ _ (All P) (λ e. (c, tighten_all in-of q qs x a b)) (λ e. (a, tt))

  pub pass_all : (in-of : ℕ → ℕ → Bool) (x p : Point) (cs : List Point) → Q p → All P cs
      → All P (pass in-of x p cs).out × Q (pass in-of x p cs).apex × All P (pass in-of x p cs).rest
  unfolding pass
  pass_all in-of x p [] a b = (tt, a, tt)
  pass_all in-of x p (c ∷ cs) a (d, b) =
      cond_both (inward in-of p x c) _ _ (λ (r : Passed). All P r.out × Q r.apex × All P r.rest)
      (λ e. let (i, j, k) = pass_all in-of x c cs (weaker c d) b in ((d, i), j, k))
      (λ e. (tt, a, (d, b)))

  pub take_in_all : (in-of : ℕ → ℕ → Bool) (p : Point) (own other : List Point) (x : Point) → P x → Q p → All P own → All P other
      → All P (take_in in-of p own other x).out × Q (take_in in-of p own other x).apex × All P (take_in in-of p own other x).own × All P (take_in in-of p own other x).other
  unfolding take_in
  take_in_all in-of p own other x a b c d =
      cond_both (alone (tighten in-of p own x)) _ _ (λ (r : Funnel). All P r.out × Q r.apex × All P r.own × All P r.other)
      (λ e. let (i, j, k) = pass_all in-of x p other b d in (i, j, (a, tt), k))
      (λ e. (tt, b, tighten_all in-of p own x a c, d))

  pub reach_all : (up : Bool) (jobs : List Job) (t : ℕ) (p : Point) (own other : List Point) → (mark up jobs t ≡ true → P (stake up jobs t)) → Q p → All P own → All P other
      → All P (reach up jobs t p own other).out × Q (reach up jobs t p own other).apex × All P (reach up jobs t p own other).own × All P (reach up jobs t p own other).other
  unfolding reach
  reach_all up jobs t p own other a b c d =
      cond_both (mark up jobs t) _ _ (λ (r : Funnel). All P r.out × Q r.apex × All P r.own × All P r.other)
      (λ e. take_in_all (inner up) p own other (stake up jobs t) (a e) b c d)
      (λ e. (tt, b, c, d))

  pub sweep_from_all : (jobs : List Job) (p : Point) (upper lower : List Point) (ts : List ℕ) → ((up : Bool) (t : ℕ) → mark up jobs t ≡ true → P (stake up jobs t)) → P (finish jobs)
      → Q p → All P upper → All P lower → All P (sweep_from jobs p upper lower ts)
  unfolding sweep_from
  sweep_from_all jobs p upper lower [] put end a b c = (end, tt)
  sweep_from_all jobs p upper lower (t ∷ ts) put end a b c =
      let f = reach false jobs t p lower upper in
      let g = reach true jobs t f.apex f.other f.own in
      let (i, j, k, l) = reach_all false jobs t p lower upper (put false t) a c b in
      let (m, n, o, q) = reach_all true jobs t f.apex f.other f.own (put true t) j l k in
      all_append P f.out _ i (all_append P g.out _ m (sweep_from_all jobs g.apex g.own g.other ts put end n o q))

-- how many points there are: a chain grows by at most one, and what goes from the other chain comes out
pub tighten_length : (in-of : ℕ → ℕ → Bool) (p : Point) (qs : List Point) (x : Point) → length (tighten in-of p qs x) ≤ suc (length qs)
unfolding tighten
tighten_length in-of p [] x = omega arith
tighten_length in-of p (q ∷ qs) x = cond_both (inward in-of p q x) _ _ (λ (w : List Point). length w ≤ suc (suc (length qs))) (λ e. let k = tighten_length in-of q qs x in omega arith) (λ e. omega arith)

pub pass_length : (in-of : ℕ → ℕ → Bool) (x p : Point) (cs : List Point) → length (pass in-of x p cs).out + length (pass in-of x p cs).rest ≡ length cs
unfolding pass
pass_length in-of x p [] = omega arith
pass_length in-of x p (c ∷ cs) =
    cond_both (inward in-of p x c) _ _ (λ (r : Passed). length r.out + length r.rest ≡ suc (length cs)) (λ e. let k = pass_length in-of x c cs in omega arith) (λ e. omega arith)
