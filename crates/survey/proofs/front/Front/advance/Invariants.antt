use Rattle.std.proofs.Common.{◌≡◌, ℕ, ◌+◌, ◌<◌, ◌≤◌}
use Rattle.model.specs.Jobs.{job_at}
use Rattle.model.specs.Sums.{sum_to}
use Rattle.survey.specs.Fronts.{time_of}
use Rattle.survey.specs.Moments.{is_arrival}
use Rattle.survey.proofs.front.Front.advance.Given as goal

-- the jobs of the front are counted at or before t, and their works are added
abbrev pub invariant-loop-job : goal.invariant-loop-job
invariant-loop-job l =
    (l.front.count ≡ l.fn.self.count + l.job-index)
    × (l.front.work ≡ sum_to l.front.count (λ k. (job_at l.standing.jobs.now k).work))
    × ((k : ℕ) → k < l.front.count → time_of (is_arrival l.moment) (job_at l.standing.jobs.now k) ≤ l.t)
