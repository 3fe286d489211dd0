-- What a queue means: its list of jobs.
use Rattle.std.specs.Prelude.{List, vec_items}
use Rattle.model.specs.declared.job.Job.{Job}
use Rattle.queue.specs.declared.queue.Queue.{Queue}

-- the standing jobs in book order
abbrev pub jobs_of : Queue → List Job
jobs_of q = vec_items q.jobs
