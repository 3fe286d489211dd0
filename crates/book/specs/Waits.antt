-- When a job may be held over jobs: it could be put last.
use Rattle.std.specs.Prelude.{Bool, true, not, List, is_some, Some, None, Option}
use Rattle.model.specs.declared.job.Job.{Job}
use Rattle.queue.specs.Queues.{push_lines}
use Rattle.refusal.specs.Refusals.{first_of}

-- no job, or one that the queue's table does not refuse
abbrev pub may_wait : List Job → Option Job → Bool
may_wait jobs None = true
may_wait jobs (Some j) = not (is_some (first_of (push_lines jobs j)))
