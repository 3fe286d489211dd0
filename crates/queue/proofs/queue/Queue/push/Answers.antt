use Rattle.std.proofs.Common.{◌≡◌, true, List, sym, subst, arith, rules}
use Rattle.model.specs.declared.job.Job.{Job}
use Rattle.queue.specs.Queues.{standing}
use Rattle.queue.specs.Meaning.{jobs_of}
use Rattle.queue.proofs.Admitted.{admitted, standing_with}
use Rattle.queue.proofs.queue.Queue.push.Goals as goal

pub invariant_of-self : goal.invariant_of-self
invariant_of-self c =
    let q = c.args.self.now in
    let a = admitted (jobs_of q) c.args.job c.in_ok-admits.ensures in
    record {
      few = omega (arith, a.room, q.jobs.ok.0, c.push_reserved.ensures.len);
      room = search rules;
      order = subst (λ (xs : List Job). standing xs ≡ true) (sym c.push_reserved.ensures.items) (standing_with (jobs_of q) c.args.job q.order a);
    }
