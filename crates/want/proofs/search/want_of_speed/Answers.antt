use Rattle.std.proofs.Common.{◌≡◌, ℕ, ◌+◌, ◌-◌, ◌*◌, ◌<◌, ◌≤◌, ◌∙◌, ap, sym, refl, subst, length, arith}
use Rattle.model.specs.Jobs.{job_at}
use Rattle.model.specs.declared.job.Job.{Job}
use Rattle.model.specs.Speed.{starved}
use Rattle.model.specs.Sums.{first_below}
use Rattle.model.proofs.First.{first_start, first_more}
use Rattle.want.proofs.Loads.{load_small, top_small, time_left, room_small, left_all, last_left, left_more, none_left, is_starved, fits, overflows, wanted_here, wanted_none}
use Rattle.want.proofs.search.want_of_speed.Goals as goal

pub search-init : goal.search-init
search-init g c = (refl, first_start (starved (g.P.Processor.steps c.args.processor.now) c.args.standing.jobs.now))

pub loop-first-init : goal.loop-first-init
loop-first-init g c =
    let into = ap (λ i. i.iter.rest.now) c.into_iter-first-iterator.ensures.into_iter_gives in
    let back = ap (λ i. i.rest.now) c.rev-first-items.ensures.source in (
      c.search.invariant.0,
      left_all (g.P.Processor.steps c.args.processor.now) c.args.standing.jobs.now _ c.search.j c.search-test.true (into ∙ (back ∙ c.iter.ensures.rest)),
    )

pub overflow_add-load : goal.overflow_add-load
overflow_add-load g c =
    let jobs = c.args.standing.jobs.now in
    let a = last_left (g.P.Processor.steps c.args.processor.now) jobs _ _ _ c.search.j c.loop-first.load c.in-Some.ensures.steps c.loop-first.invariant.1 in
    let w = a.within in
    let s = load_small jobs c.args.standing.order (length c.next.new.self.iter.rest.now) c.search.j (omega arith) c.search-test.true in
    let e = a.loaded in
    let f = c.args.standing.few in
    omega arith

pub overflow_sub-last : goal.overflow_sub-last
unfolding job_at
overflow_sub-last g c =
    let jobs = c.args.standing.jobs.now in
    let a = last_left (g.P.Processor.steps c.args.processor.now) jobs _ _ _ c.search.j c.loop-first.load c.in-Some.ensures.steps c.loop-first.invariant.1 in
    let h = ap (λ (x : Job). x.arrival) a.here in
    let l = time_left jobs c.args.standing.order (length c.next.new.self.iter.rest.now) c.search.j a.within c.search-test.true in
    omega arith

pub overflow_mul-top : goal.overflow_mul-top
unfolding job_at
overflow_mul-top g c =
    let jobs = c.args.standing.jobs.now in
    let a = last_left (g.P.Processor.steps c.args.processor.now) jobs _ _ _ c.search.j c.loop-first.load c.in-Some.ensures.steps c.loop-first.invariant.1 in
    let t = top_small (g.P.Processor.steps c.args.processor.now) (g.met.P.Processor.lawful c.args.processor.now) in
    let r = room_small jobs c.args.standing.order c.top_speed-top.result (length c.next.new.self.iter.rest.now) c.search.j (omega arith) c.search-test.true in
    let h = ap (λ (x : Job). c.top_speed-top.result * ((job_at jobs c.search.j).deadline - x.arrival)) a.here in
    omega arith

pub loop-first-preserved : goal.loop-first-preserved
unfolding job_at
loop-first-preserved g c =
    let jobs = c.args.standing.jobs.now in
    let steps = g.P.Processor.steps c.args.processor.now in
    let a = last_left steps jobs _ _ _ c.search.j c.loop-first.load c.in-Some.ensures.steps c.loop-first.invariant.1 in
    let f = fits steps jobs c.top_speed-top.result (length c.next.new.self.iter.rest.now) c.search.j _ c.top_speed-top.ensures a.loaded
    (subst (λ (x : Job). c.loop-first.load + c.in-Some.first.now.work ≤ c.top_speed-top.result * ((job_at jobs c.search.j).deadline - x.arrival)) (sym a.here) c.if-top-last.false)
    in
    (c.loop-first.invariant.0, left_more steps jobs _ _ _ c.search.j c.loop-first.load c.loop-first.invariant.1 a f)

pub search-preserved : goal.search-preserved
search-preserved g c =
    let steps = g.P.Processor.steps c.args.processor.now in
    let jobs = c.args.standing.jobs.now in
    let s = none_left steps jobs _ c.search.j c.loop-first.load c.in-None.ensures.steps.0 c.loop-first.invariant.1 in
    (c.loop-first.invariant.0, first_more c.search.j (starved steps jobs) c.search.invariant.1 s)

pub returns-after-search : goal.returns-after-search
returns-after-search g c =
    let steps = g.P.Processor.steps c.args.processor.now in
    let jobs = c.args.standing.jobs.now in
    let e : c.search.j ≡ length jobs = omega arith in
    c.search.invariant.0 ∙ wanted_none steps jobs (subst (λ (n : ℕ). first_below n (starved steps jobs) ≡ n) e c.search.invariant.1)

pub returns-then-top-last : goal.returns-then-top-last
unfolding job_at
returns-then-top-last g c =
    let jobs = c.args.standing.jobs.now in
    let steps = g.P.Processor.steps c.args.processor.now in
    let a = last_left steps jobs _ _ _ c.search.j c.loop-first.load c.in-Some.ensures.steps c.loop-first.invariant.1 in
    let o = overflows steps jobs c.top_speed-top.result (length c.next.new.self.iter.rest.now) c.search.j _ c.top_speed-top.ensures a.loaded
    (subst (λ (x : Job). c.top_speed-top.result * ((job_at jobs c.search.j).deadline - x.arrival) < c.loop-first.load + c.in-Some.first.now.work) (sym a.here) c.if-top-last.true)
    in
    wanted_here steps jobs c.search.j c.search-test.true c.search.invariant.1 (is_starved steps jobs (length c.next.new.self.iter.rest.now) c.search.j a.within o)
