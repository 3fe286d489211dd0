use Rattle.std.proofs.Common.{◌≡◌, true, List, sym, subst, rules}
use Rattle.model.specs.declared.job.Job.{Job}
use Rattle.queue.specs.Queues.{standing}
use Rattle.queue.proofs.Order.{standing_take}
use Rattle.queue.proofs.queue.Queue.pop.Goals as goal

pub invariant_of-self : goal.invariant_of-self
invariant_of-self c =
    let q = c.args.self.now in record { few = search rules; room = search rules; order = subst (λ (xs : List Job). standing xs ≡ true) (sym c.pop.ensures.rest) (standing_take _ _ q.order) }
