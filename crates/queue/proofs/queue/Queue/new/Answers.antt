use Rattle.std.proofs.Common.{◌≡◌, true, List, sym, subst, rules}
use Rattle.model.specs.declared.job.Job.{Job}
use Rattle.queue.specs.Queues.{standing}
use Rattle.queue.proofs.Order.{standing_none}
use Rattle.queue.proofs.queue.Queue.new.Goals as goal

pub invariant_of-result : goal.invariant_of-result
invariant_of-result c =
    record {
      few = search rules;
      room = search rules;
      order = subst (λ (xs : List Job). standing xs ≡ true) (sym c.in_ok-jobs.ensures.items) standing_none;
    }
