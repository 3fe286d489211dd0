use Rattle.std.proofs.Common.{◌≡◌, ℕ, ◌+◌, ap, sym, ◌∙◌, arith, below_more}
use Rattle.model.specs.Jobs.{job_at}
use Rattle.model.specs.declared.job.Job.{Job}
use Rattle.queue.proofs.Order.{ordered_from}
use Rattle.survey.proofs.Counted.{rest_at, work_small, works_small}
use Rattle.survey.proofs.Merged.{work_more, front_stops}
use Rattle.survey.specs.Fronts.{time_of}
use Rattle.survey.specs.Moments.{is_arrival}
use Rattle.survey.proofs.front.Front.advance.Goals as goal

pub returns-then-of-t : goal.returns-then-of-t
unfolding job_at
returns-then-of-t c =
    let jobs = c.args.standing.jobs.now in
    let (l, e) = rest_at jobs c.args.self.count c.loop-job.job-index c.loop-job-test.true in
    let (n, w, p) = c.loop-job.invariant in
    let t = ap (λ (j : Job). time_of (is_arrival c.args.moment) j) e in
    front_stops (is_arrival c.args.moment) jobs c.args.t c.loop-job.front.count c.loop-job.front.work (ordered_from jobs c.args.standing.order) (omega arith) w p
    (λ _. rw n (omega (arith, t, c.of.ensures, c.if-of-t.true)))

pub overflow_cast-front : goal.overflow_cast-front
unfolding job_at
overflow_cast-front c =
    let jobs = c.args.standing.jobs.now in
    let (l, e) = rest_at jobs c.args.self.count c.loop-job.job-index c.loop-job-test.true in
    let s = work_small jobs c.args.standing.order _ l in
    let w = ap (λ (j : Job). j.work) e in
    omega arith

pub overflow_add-front-in-loop-job : goal.overflow_add-front-in-loop-job
unfolding job_at
overflow_add-front-in-loop-job c =
    let jobs = c.args.standing.jobs.now in
    let (l, e) = rest_at jobs c.args.self.count c.loop-job.job-index c.loop-job-test.true in
    let (n, w, p) = c.loop-job.invariant in
    let s = work_small jobs c.args.standing.order _ l in
    let f = c.args.standing.few in
    let r = works_small jobs c.args.standing.order c.loop-job.front.count (omega arith) in
    let x = ap (λ (j : Job). j.work) e in
    omega arith

pub loop-job-preserved : goal.loop-job-preserved
unfolding job_at
loop-job-preserved c =
    let jobs = c.args.standing.jobs.now in
    let (l, e) = rest_at jobs c.args.self.count c.loop-job.job-index c.loop-job-test.true in
    let (n, w, p) = c.loop-job.invariant in
    let m : c.args.self.count + c.loop-job.job-index ≡ c.loop-job.front.count = sym n in
    let r = e ∙ ap (job_at jobs) m in
    let x = ap (λ (j : Job). j.work) r in
    let t = ap (λ (j : Job). time_of (is_arrival c.args.moment) j) r in
    (omega arith, ap (λ (y : ℕ). c.loop-job.front.work + y) x ∙ work_more jobs c.loop-job.front.count c.loop-job.front.work w, below_more _ _ p (omega (arith, t, c.of.ensures, c.if-of-t.false)))
