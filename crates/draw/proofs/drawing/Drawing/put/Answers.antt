use Rattle.std.proofs.Common.{sym, arith}
use Rattle.draw.proofs.Adding.{added_none}
use Rattle.draw.proofs.Bounds.{cost_safe}
use Rattle.draw.proofs.drawing.Drawing.put.Goals as goal

pub returns-then-run-eq0-clause-runs : goal.returns-then-run-eq0-clause-runs
returns-then-run-eq0-clause-runs g c = sym (added_none _ c.args.run c.if-run-eq0.true)

pub overflow_mul-self : goal.overflow_mul-self
overflow_mul-self g c =
    let m = cost_safe (g.P.Processor.steps c.args.processor.now) (g.met.P.Processor.lawful c.args.processor.now) c.args.run c.power.result c.power.ensures in
    omega (arith, c.requires.cheap)

pub overflow_add-self : goal.overflow_add-self
overflow_add-self g c =
    let m = cost_safe (g.P.Processor.steps c.args.processor.now) (g.met.P.Processor.lawful c.args.processor.now) c.args.run c.power.result c.power.ensures in
    omega (arith, c.requires.cheap)
