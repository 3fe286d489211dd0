-- Lanes: the straight pieces of a path by number, each with its slower step.
use Rattle.std.specs.Prelude.{ℕ, zero, suc, ◌-◌, ◌*◌, ◌/◌, ◌<◌, ◌≤◌, ◌≡◌, List, [], ◌∷◌, slice_index_or}
use Rattle.model.specs.Steps.{speed_at, gap}
use Rattle.model.specs.Path.{start, Piece}
use Rattle.model.specs.Plan.{slow_step, done_at, ticks_between, segment}
use Rattle.model.specs.declared.point.Point.{Point}
use Rattle.model.specs.declared.segment.Segment.{Segment}
use Rattle.model.specs.declared.step.Step.{Step}
use Rattle.draw.specs.declared.lane.Lane.{Lane}

-- where piece number k of a path begins, and where it ends
abbrev pub begin_at : List Point → ℕ → Point
begin_at corners zero = start
begin_at corners (suc k) = slice_index_or corners k start

abbrev pub end_at : List Point → ℕ → Point
end_at corners k = slice_index_or corners k start

abbrev pub piece_no : List Point → ℕ → Piece
piece_no corners k = record { from = begin_at corners k; to = end_at corners k }

-- lane l is that piece
pub record IsLane (steps : List Step) (corners : List Point) (k : ℕ) (l : Lane) : Type 0 where
  pub number : l.number ≡ k
  pub from : l.from ≡ begin_at corners k
  pub to : l.to ≡ end_at corners k
  pub slow : l.slow ≡ slow_step steps (piece_no corners k)
  pub speed : l.speed ≡ speed_at steps (slow_step steps (piece_no corners k))
  pub gap : l.gap ≡ gap steps (slow_step steps (piece_no corners k))

-- the piece of a lane
abbrev pub line : Lane → Piece
line l = record { from = l.from; to = l.to }

-- the fast ticks from time s to time t, and the two runs
unfoldable pub fast_of : Lane → ℕ → ℕ → ℕ
fast_of l s t = (done_at (line l) l.gap t - done_at (line l) l.gap s - ticks_between s t * l.speed) / l.gap

unfoldable pub runs_of : Lane → ℕ → ℕ → List Segment
runs_of l s t = segment l.slow (ticks_between s t - fast_of l s t) ∷ (segment (suc l.slow) (fast_of l s t) ∷ [])

-- limits within which the arithmetic on a piece is safe
pub record Bounded (p : Piece) : Type 0 where
  pub onward : p.from.time < p.to.time
  pub soon : p.to.time ≤ 200000
  pub low : p.from.height ≤ 256000000
  pub high : p.to.height ≤ 256000000
