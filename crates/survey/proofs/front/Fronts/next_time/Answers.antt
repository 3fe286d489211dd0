use Rattle.std.proofs.Common.{sym, arith}
use Rattle.model.specs.Jobs.{no_job, job_at}
use Rattle.survey.proofs.Merged.{soonest_all, soonest_some}
use Rattle.survey.proofs.front.Fronts.next_time.Goals as goal

pub returns-in-Some : goal.returns-in-Some
unfolding job_at
returns-in-Some c =
    let (l, read) = c.in-Some.ensures.lookup.3 in
    let e = soonest_some c.args.standing.jobs.now c.args.self l in
    let r = read no_job in
    grind arith

pub returns-in-None : goal.returns-in-None
unfolding job_at
returns-in-None c = sym (soonest_all c.args.standing.jobs.now c.args.self c.in-None.ensures.lookup.3)
