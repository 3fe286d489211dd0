use Rattle.std.proofs.Common.{refl, arith}
use Rattle.model.specs.Sums.{sum_of}
use Rattle.model.specs.Plan.{energy}
use Rattle.draw.specs.Gathered.{listed}
use Rattle.draw.proofs.Adding.{ticks_put, two_put}
use Rattle.draw.proofs.Bounds.{cost_safe}
use Rattle.draw.proofs.drawing.Drawing.put_both.Goals as goal

pub put-requires-2-clause-short : goal.put-requires-2-clause-short
put-requires-2-clause-short g c =
    let t = ticks_put (listed c.put.new.self) (listed c.args.self.now) c.args.first c.put.ensures.runs in
    omega (arith, c.requires.short)

pub put-requires-2-clause-cheap : goal.put-requires-2-clause-cheap
put-requires-2-clause-cheap g c =
    let m = cost_safe (g.P.Processor.steps c.args.processor.now) (g.met.P.Processor.lawful c.args.processor.now) c.args.first _ refl in
    omega (arith, c.put.ensures.spent, c.requires.cheap)

pub returns-clause-runs : goal.returns-clause-runs
returns-clause-runs g c =
    two_put (listed c.put-2.new.self) (listed c.put.new.self) (listed c.args.self.now)
    c.args.first c.args.second c.put-2.ensures.runs c.put.ensures.runs

pub returns-clause-spent : goal.returns-clause-spent
unfolding energy sum_of
returns-clause-spent g c = omega (arith, c.put.ensures.spent, c.put-2.ensures.spent)
