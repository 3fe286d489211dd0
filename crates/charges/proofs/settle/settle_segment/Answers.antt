use Rattle.std.proofs.Common.{ℕ, [], ◌∙◌, arith, lit<}
use Rattle.model.specs.Jobs.{job_at}
use Rattle.charges.specs.Rows.{rows_of}
use Rattle.charges.proofs.Raised.{rows_count}
use Rattle.charges.proofs.Moves.{speed_small, energy_small, grains_small, account_known, stays_near, owing_whole, owing_none, skip, house_room, house_pays, own_room, own_pays}
use Rattle.charges.proofs.settle.settle_segment.Goals as goal

pub overflow_mul-power : goal.overflow_mul-power
overflow_mul-power g c =
    let p = c.args.processor.now in
    let q = energy_small (g.P.Processor.steps p) (g.met.P.Processor.lawful p) c.args.segment.step c.power-power.result c.loop-left.left c.power-power.ensures (omega (arith, c.loop-left.invariant.1, c.requires.short)) in
    omega (arith, q)

pub raise-requires : goal.raise-requires
raise-requires g c =
    let steps = g.P.Processor.steps c.args.processor.now in
    let s = c.args.segment in
    let l = c.loop-left in
    let i = l.invariant.2 s.step c.speed-speed.ensures c.power-power.ensures [] 0 in
    let j = owing_whole steps c.args.jobs.now (rows_of c.args.charges.now) c.args.start s [] 0 in
    let r =
    house_room steps c.args.jobs.now (rows_of l.charges) s.step c.speed-speed.result c.power-power.result c.speed-speed.ensures c.power-power.ensures
    l.at l.left c.then-speed-eq0.either 4000000000000000000 (omega (arith, i, j, c.requires.room 0 (lit< tt)))
    in
    record { known = lit< tt; room = omega (arith, r) }

pub returns-then-speed-eq0 : goal.returns-then-speed-eq0
returns-then-speed-eq0 g c =
    let steps = g.P.Processor.steps c.args.processor.now in
    let s = c.args.segment in
    let l = c.loop-left in
    record {
      near = l.invariant.0;
      paid = λ rest a.
          house_pays steps c.args.jobs.now (rows_of l.charges) s.step c.speed-speed.result c.power-power.result c.speed-speed.ensures c.power-power.ensures
          l.at l.left c.then-speed-eq0.either (rows_of c.raise.new.self) (omega (arith, rows_count l.charges)) c.raise.ensures rest a
          ∙ (l.invariant.2 s.step c.speed-speed.ensures c.power-power.ensures rest a
          ∙ owing_whole steps c.args.jobs.now (rows_of c.args.charges.now) c.args.start s rest a);
    }

pub overflow_mul-grains : goal.overflow_mul-grains
unfolding job_at
overflow_mul-grains g c = omega (arith, grains_small c.args.jobs.now c.requires.order c.loop-left.at.job c.if-at-jobs.false)

pub loop-left-preserved-then-at-grains : goal.loop-left-preserved-then-at-grains
unfolding job_at
loop-left-preserved-then-at-grains g c =
    let steps = g.P.Processor.steps c.args.processor.now in
    let l = c.loop-left in (
      omega (arith, l.invariant.0),
      l.invariant.1,
      λ h ev ew rest a. skip steps c.args.jobs.now (rows_of l.charges) l.at _ a c.if-at-jobs.false c.if-at-grains.true ∙ l.invariant.2 h ev ew rest a,
    )

pub own_ticks-ticks-requires : goal.own_ticks-ticks-requires
unfolding job_at
own_ticks-ticks-requires g c =
    let p = c.args.processor.now in
    let k = grains_small c.args.jobs.now c.requires.order c.loop-left.at.job c.if-at-jobs.false in (
      omega (arith, c.if-speed-eq0.false),
      speed_small (g.P.Processor.steps p) (g.met.P.Processor.lawful p) c.args.segment.step c.speed-speed.result c.speed-speed.ensures,
      omega arith,
    )

pub overflow_mul-power-in-loop-left : goal.overflow_mul-power-in-loop-left
overflow_mul-power-in-loop-left g c =
    let p = c.args.processor.now in
    let q =
    energy_small (g.P.Processor.steps p) (g.met.P.Processor.lawful p) c.args.segment.step c.power-power.result c.own_ticks-ticks.result c.power-power.ensures
    (omega (arith, c.own_ticks-ticks.ensures, c.loop-left.invariant.1, c.requires.short))
    in
    omega (arith, q)

pub raise-requires-in-loop-left : goal.raise-requires-in-loop-left
unfolding job_at
raise-requires-in-loop-left g c =
    let steps = g.P.Processor.steps c.args.processor.now in
    let jobs = c.args.jobs.now in
    let s = c.args.segment in
    let l = c.loop-left in
    let x : ℕ = (job_at jobs l.at.job).account in
    let k = account_known jobs c.requires.order l.at.job c.if-at-jobs.false in
    let i = l.invariant.2 s.step c.speed-speed.ensures c.power-power.ensures [] x in
    let j = owing_whole steps jobs (rows_of c.args.charges.now) c.args.start s [] x in
    let r =
    own_room steps jobs (rows_of l.charges) s.step c.speed-speed.result c.power-power.result c.speed-speed.ensures c.power-power.ensures
    l.at l.left c.own_ticks-ticks.result c.if-at-jobs.false (omega (arith, c.if-speed-eq0.false)) c.if-at-grains.false c.own_ticks-ticks.ensures 4000000000000000000 (omega (arith, i, j, c.requires.room x k))
    in
    record { known = k; room = omega (arith, r) }

pub overflow_mul-at : goal.overflow_mul-at
unfolding job_at
overflow_mul-at g c =
    let p = c.args.processor.now in
    let n =
    stays_near (g.P.Processor.steps p) (g.met.P.Processor.lawful p) c.args.jobs.now c.requires.order c.args.segment.step c.speed-speed.result c.speed-speed.ensures (omega (arith, c.if-speed-eq0.false))
    c.loop-left.at c.loop-left.left c.own_ticks-ticks.result c.if-at-jobs.false c.if-at-grains.false c.own_ticks-ticks.ensures
    in
    omega (arith, n)

pub overflow_add-at-in-loop-left : goal.overflow_add-at-in-loop-left
unfolding job_at
overflow_add-at-in-loop-left g c =
    let p = c.args.processor.now in
    let n =
    stays_near (g.P.Processor.steps p) (g.met.P.Processor.lawful p) c.args.jobs.now c.requires.order c.args.segment.step c.speed-speed.result c.speed-speed.ensures (omega (arith, c.if-speed-eq0.false))
    c.loop-left.at c.loop-left.left c.own_ticks-ticks.result c.if-at-jobs.false c.if-at-grains.false c.own_ticks-ticks.ensures
    in
    omega (arith, n)

pub loop-left-preserved : goal.loop-left-preserved
unfolding job_at
loop-left-preserved g c =
    let p = c.args.processor.now in
    let jobs = c.args.jobs.now in
    let l = c.loop-left in (
      stays_near (g.P.Processor.steps p) (g.met.P.Processor.lawful p) jobs c.requires.order c.args.segment.step c.speed-speed.result c.speed-speed.ensures (omega (arith, c.if-speed-eq0.false))
          l.at l.left c.own_ticks-ticks.result c.if-at-jobs.false c.if-at-grains.false c.own_ticks-ticks.ensures,
      omega (arith, l.invariant.1),
      λ h ev ew rest a.
          own_pays (g.P.Processor.steps p) jobs (rows_of l.charges) h c.speed-speed.result c.power-power.result ev ew
          l.at l.left c.own_ticks-ticks.result c.if-at-jobs.false (omega (arith, c.if-speed-eq0.false)) c.if-at-grains.false c.own_ticks-ticks.ensures
          (rows_of c.raise-in-loop-left.new.self) (omega (arith, rows_count l.charges, account_known jobs c.requires.order l.at.job c.if-at-jobs.false)) c.raise-in-loop-left.ensures rest a
          ∙ l.invariant.2 h ev ew rest a,
    )

pub returns : goal.returns
returns g c =
    let steps = g.P.Processor.steps c.args.processor.now in
    let s = c.args.segment in
    let l = c.loop-left in
    record {
      near = l.invariant.0;
      paid = λ rest a.
          owing_none steps c.args.jobs.now (rows_of l.charges) l.at s.step l.left rest a (omega arith)
          ∙ (l.invariant.2 s.step c.speed-speed.ensures c.power-power.ensures rest a
          ∙ owing_whole steps c.args.jobs.now (rows_of c.args.charges.now) c.args.start s rest a);
    }
