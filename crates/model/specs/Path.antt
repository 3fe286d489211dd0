-- The path between the walls: the law that it keeps, and the one path that keeps it.
-- A path is written as its corners after the start, which is time 0 and height 0; the last is its end.
use Rattle.std.specs.Prelude.{◌≡◌, ℕ, suc, ◌+◌, ◌-◌, ◌*◌, Bool, cond, not, ◌&&◌, ◌||◌, List, [], ◌∷◌, ◌++◌, map, ◌==◌, nat_le, nat_lt}
use Rattle.model.specs.Sums.{all_below}
use Rattle.model.specs.Jobs.{total, span, ceiling, floor, arrives, due, cuts}
use Rattle.model.specs.declared.job.Job.{Job}
use Rattle.model.specs.declared.point.Point.{Point}

-- where every path starts, and where a path of these jobs ends
abbrev pub start : Point
start = record { time = 0; height = 0 }

unfoldable pub finish : List Job → Point
finish jobs = record { time = span jobs; height = total jobs }

-- the time from p to q, and the work
unfoldable pub run : Point → Point → ℕ
run p q = q.time - p.time

unfoldable pub rise : Point → Point → ℕ
rise p q = q.height - p.height

-- the height, times the run, at time t on the straight piece from p to q
unfoldable pub height_on : Point → Point → ℕ → ℕ
height_on p q t = p.height * (q.time - t) + q.height * (t - p.time)

-- whether the straight piece from p to q goes on in time, does not fall, and keeps between the walls at each whole time
unfoldable pub inside : List Job → Point → Point → ℕ → Bool
inside jobs p q t = nat_le (floor jobs t * run p q) (height_on p q t) && nat_le (height_on p q t) (ceiling jobs t * run p q)

unfoldable pub straight : List Job → Point → Point → Bool
straight jobs p q = nat_lt p.time q.time && (nat_le p.height q.height && all_below (suc (run p q)) (λ i. inside jobs p q (p.time + i)))

-- whether the slope from p to q is below the slope from r to s
unfoldable pub flatter : Point → Point → Point → Point → Bool
flatter p q r s = nat_lt (rise p q * run r s) (rise r s * run p q)

-- whether the path may turn at q: the slope rises only at an arrival on the ceiling, and falls only at a deadline on the floor
unfoldable pub turns : List Job → Point → Point → Point → Bool
turns jobs p q r =
    (not (flatter p q q r) || (arrives jobs q.time && q.height == ceiling jobs q.time))
    && (not (flatter q r p q) || (due jobs q.time && q.height == floor jobs q.time))

-- the law of a path from p along its corners, and from the start
unfoldable pub keeps_from : List Job → Point → List Point → Bool
keeps_from jobs p [] = p.time == span jobs && p.height == total jobs
keeps_from jobs p (q ∷ []) = straight jobs p q && (q.time == span jobs && q.height == total jobs)
keeps_from jobs p (q ∷ (r ∷ rs)) = straight jobs p q && (turns jobs p q r && keeps_from jobs q (r ∷ rs))

unfoldable pub keeps : List Job → List Point → Bool
keeps jobs corners = keeps_from jobs start corners

-- all ways to put, at each of the times, no corner, one on the ceiling or one on the floor, and then to end
unfoldable pub choices : List Job → List ℕ → List (List Point)
choices jobs [] = (finish jobs ∷ []) ∷ []
choices jobs (t ∷ ts) =
    let rest = choices jobs ts in
    rest ++ (map (λ c. record { time = t; height = ceiling jobs t } ∷ c) rest ++ map (λ c. record { time = t; height = floor jobs t } ∷ c) rest)

-- the first of them that keeps the law, or no corner
unfoldable pub first_keeping : List Job → List (List Point) → List Point
first_keeping jobs [] = []
first_keeping jobs (c ∷ cs) = cond (keeps jobs c) c (first_keeping jobs cs)

-- the times that are after 0 and before the end
unfoldable pub between : ℕ → List ℕ → List ℕ
between end [] = []
between end (t ∷ ts) = cond (nat_lt 0 t && nat_lt t end) (t ∷ between end ts) (between end ts)

-- the path of the jobs: that one exists, and that all that keep the law have the same heights, are theorems
unfoldable pub path : List Job → List Point
path jobs = first_keeping jobs (choices jobs (between (span jobs) (cuts jobs)))

-- a straight piece of a path
pub record Piece : Type 0 where
  pub from : Point
  pub to : Point

-- the piece of a path, from p along its corners, on which the time from t to t + 1 lies; the last one from its end on
unfoldable pub piece_from : Point → List Point → ℕ → Piece
piece_from p [] t = record { from = p; to = p }
piece_from p (q ∷ []) t = record { from = p; to = q }
piece_from p (q ∷ (r ∷ rs)) t = cond (nat_lt t q.time) (record { from = p; to = q }) (piece_from q (r ∷ rs) t)

unfoldable pub piece_at : List Point → ℕ → Piece
piece_at corners t = piece_from start corners t

-- two paths have the same height at time t
abbrev pub SameHeight : List Point → List Point → ℕ → Type 0
SameHeight c d t =
    height_on (piece_at c t).from (piece_at c t).to t * run (piece_at d t).from (piece_at d t).to
    ≡ height_on (piece_at d t).from (piece_at d t).to t * run (piece_at c t).from (piece_at c t).to
