-- From the path to the plan: between neighbouring cuts first the slower, then the faster of the two neighbouring steps.
use Rattle.std.specs.Prelude.{ℕ, suc, ◌+◌, ◌-◌, ◌*◌, ◌/◌, cond, List, [], ◌∷◌, ◌++◌, length, ◌==◌, nat_le}
use Rattle.model.specs.Sums.{sum_to, sum_of}
use Rattle.model.specs.Steps.{unit, speed_at, power_at, gap}
use Rattle.model.specs.Jobs.{cuts}
use Rattle.model.specs.Path.{run, rise, height_on, path, Piece, piece_at}
use Rattle.model.specs.declared.job.Job.{Job}
use Rattle.model.specs.declared.point.Point.{Point}
use Rattle.model.specs.declared.segment.Segment.{Segment}
use Rattle.model.specs.declared.step.Step.{Step}

-- the slower of the two neighbouring steps of a piece: the last whose speed is no more than the slope, but never the very last.
-- Speeds rise, so it is how many of the steps between the first and the last are no faster than the slope
unfoldable pub slow_step : List Step → Piece → ℕ
slow_step steps l =
    sum_to (length steps - 2) (λ i. cond (nat_le (speed_at steps (suc i) * run l.from l.to) (rise l.from l.to)) 1 0)

-- the work done by time t, in grains: the height of the piece rounded down to a multiple of g
unfoldable pub done_at : Piece → ℕ → ℕ → ℕ
done_at l g t = unit * height_on l.from l.to t / (run l.from l.to * g) * g

-- the ticks from time s to time t, and those of them at the faster step
unfoldable pub ticks_between : ℕ → ℕ → ℕ
ticks_between s t = unit * (t - s)

unfoldable pub fast_ticks : List Step → Piece → ℕ → ℕ → ℕ
fast_ticks steps l s t =
    let h = slow_step steps l in
    (done_at l (gap steps h) t - done_at l (gap steps h) s - ticks_between s t * speed_at steps h) / gap steps h

-- a run of n ticks at step h
unfoldable pub segment : ℕ → ℕ → Segment
segment h n = record { step = h; ticks = n }

-- from time s to time t on one piece: the slow ticks, then the fast ones
unfoldable pub stretch : List Step → Piece → ℕ → ℕ → List Segment
stretch steps l s t =
    let h = slow_step steps l in
    let f = fast_ticks steps l s t in
    segment h (ticks_between s t - f) ∷ (segment (suc h) f ∷ [])

-- the stretches between neighbouring cuts
unfoldable pub stretches : List Step → List Point → List ℕ → List Segment
stretches steps corners [] = []
stretches steps corners (s ∷ []) = []
stretches steps corners (s ∷ (t ∷ ts)) = stretch steps (piece_at corners s) s t ++ stretches steps corners (t ∷ ts)

-- a run set before a plan: left out where it has no ticks, joined where the plan goes on at its step
unfoldable pub attach : Segment → List Segment → List Segment
attach s [] = cond (s.ticks == 0) [] (s ∷ [])
attach s (n ∷ ns) =
    cond (s.ticks == 0) (n ∷ ns)
    (cond (s.step == n.step) (segment n.step (s.ticks + n.ticks) ∷ ns) (s ∷ (n ∷ ns)))

-- neighbours of one step joined, and none with 0 ticks
unfoldable pub joined : List Segment → List Segment
joined [] = []
joined (s ∷ ss) = attach s (joined ss)

-- the plan of the jobs on a processor of these steps
unfoldable pub plan : List Step → List Job → List Segment
plan steps jobs = joined (stretches steps (path jobs) (cuts jobs))

-- the ticks of a plan, and its energy: power × ticks, summed
unfoldable pub ticks_of : List Segment → ℕ
ticks_of segments = sum_of (λ s. s.ticks) segments

unfoldable pub energy : List Step → List Segment → ℕ
energy steps segments = sum_of (λ s. power_at steps s.step * s.ticks) segments
