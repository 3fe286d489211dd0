use Rattle.std.proofs.Common.{rules}
use Rattle.queue.specs.Meaning.{jobs_of}
use Rattle.queue.proofs.Order.{followed}
use Rattle.queue.proofs.queue.Queue.follows.Goals as goal

pub returns : goal.returns
returns c = followed (jobs_of c.args.self.now) c.last.result c.args.job c.is_none_or.result (search rules) (search rules)
