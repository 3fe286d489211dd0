-- The cuts as a program holds them: each with the heights of the walls, and whether a wall puts a point there.
use Rattle.std.specs.Prelude.{ℕ, true, false, List, map}
use Rattle.model.specs.Jobs.{ceiling, floor, cuts}
use Rattle.model.specs.declared.cut.Cut.{Cut}
use Rattle.model.specs.declared.job.Job.{Job}
use Rattle.theory.specs.Sweep.{mark}

-- what a program holds of time t
unfoldable pub cut_of : List Job → ℕ → Cut
cut_of jobs t = record { time = t; upper = ceiling jobs t; lower = floor jobs t; rises = mark true jobs t; falls = mark false jobs t }

-- all cuts, in order
unfoldable pub survey : List Job → List Cut
survey jobs = map (cut_of jobs) (cuts jobs)
