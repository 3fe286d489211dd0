-- What spending a slip does to a book.
use Rattle.std.specs.Prelude.{◌≡◌, ℕ, Some}
use Rattle.model.specs.declared.job.Job.{Job}
use Rattle.book.specs.Calls.{State, standing_with}

-- the slip is of the open hold on this job, and the hold is closed
pub record Spends (s : State) (slip : ℕ) (j : Job) (t : State) : Type 0 where
  pub own : slip ≡ s.number
  pub held : s.held ≡ Some j
  pub closed : t ≡ standing_with s s.jobs
