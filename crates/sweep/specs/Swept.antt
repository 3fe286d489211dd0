-- The sweep over cuts that bear the heights of the walls, as a program holds them.
use Rattle.std.specs.Prelude.{ℕ, suc, ◌<◌, Bool, true, false, Option, None, Some, List, [], ◌∷◌, ◌++◌, length, slice_index_or}
use Rattle.std.specs.Bool.{then_some}
use Rattle.model.specs.Path.{start}
use Rattle.model.specs.declared.cut.Cut.{Cut}
use Rattle.model.specs.declared.point.Point.{Point}
use Rattle.theory.specs.Sweep.{inner, Funnel, take_in}

-- what stands for a cut past the last
abbrev pub no_cut : Cut
no_cut = record { time = 0; upper = 0; lower = 0; rises = false; falls = false }

-- the point of a wall at a cut, and whether the wall puts it
abbrev pub stake_at : Bool → Cut → Point
stake_at true c = record { time = c.time; height = c.upper }
stake_at false c = record { time = c.time; height = c.lower }

abbrev pub marked : Bool → Cut → Bool
marked true c = c.rises
marked false c = c.falls

-- a wall's point comes in, if there is one
unfoldable pub reached : (ℕ → ℕ → Bool) → Option Point → Point → List Point → List Point → Funnel
reached in-of None p own other = record { out = []; apex = p; own = own; other = other }
reached in-of (Some x) p own other = take_in in-of p own other x

-- the sweep gets to a cut, where a wall may put a point
unfoldable pub reach_at : Bool → Cut → Point → List Point → List Point → Funnel
reach_at up c p own other = reached (inner up) (then_some (marked up c) (stake_at up c)) p own other

-- one cut: the floor's point, then the ceiling's; what was found at both, and the chains after it, the ceiling's as its own
unfoldable pub cross : Cut → Point → List Point → List Point → Funnel
cross c p upper lower =
    let f = reach_at false c p lower upper in
    let g = reach_at true c f.apex f.other f.own in
    record { out = f.out ++ g.out; apex = g.apex; own = g.own; other = g.other }

-- the corners still to be found after cut b, and the end
unfoldable pub swept_from : Point → List Point → List Point → Cut → List Cut → List Point
swept_from p upper lower b [] = stake_at true b ∷ []
swept_from p upper lower b (c ∷ cs) =
    let g = cross c p upper lower in
    g.out ++ swept_from g.apex g.own g.other c cs

-- all corners; a single cut is no span, and has none
unfoldable pub swept : List Cut → List Point
swept [] = []
swept (b ∷ []) = []
swept (b ∷ (c ∷ cs)) = swept_from start [] [] b (c ∷ cs)

-- the times of the cuts rise
abbrev pub Rising : List Cut → Type 0
Rising cuts = (k : ℕ) → suc k < length cuts → (slice_index_or cuts k no_cut).time < (slice_index_or cuts (suc k) no_cut).time
