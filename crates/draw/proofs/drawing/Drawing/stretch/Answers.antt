use Rattle.std.proofs.Common.{◌*◌, arith}
use Rattle.model.specs.Plan.{ticks_between}
use Rattle.draw.specs.Gathered.{listed}
use Rattle.draw.proofs.Stretched.{drew}
use Rattle.draw.proofs.drawing.Drawing.stretch.Goals as goal

pub overflow_sub-slow : goal.overflow_sub-slow
unfolding ticks_between
overflow_sub-slow g c = omega (arith, c.requires.fits, c.fast-fast.ensures, c.from-ticks.ensures)

pub put_both-requires-clause-short : goal.put_both-requires-clause-short
unfolding ticks_between
put_both-requires-clause-short g c = omega (arith, c.requires.fits, c.fast-fast.ensures, c.from-ticks.ensures, c.requires.within.ticks, c.requires.onward, c.requires.going, c.args.lane.now.soon)

pub put_both-requires-clause-cheap : goal.put_both-requires-clause-cheap
unfolding ticks_between
put_both-requires-clause-cheap g c = omega (arith, c.requires.fits, c.fast-fast.ensures, c.from-ticks.ensures, c.requires.within.spent, c.requires.onward, c.requires.going, c.args.lane.now.soon)

pub returns : goal.returns
unfolding ticks_between
returns g c =
    let d = drew (g.P.Processor.steps c.args.processor.now) (g.met.P.Processor.lawful c.args.processor.now) c.args.lane.now c.args.s c.args.t
    (5040 * c.from-ticks.result) c.fast-fast.result
    (listed c.args.self.now) (listed c.put_both.new.self) c.args.self.now.energy c.put_both.new.self.energy
    (omega (arith, c.from-ticks.ensures)) c.fast-fast.ensures c.requires.fits c.put_both.ensures.runs c.put_both.ensures.spent in
    record {
      runs = d.runs;
      few = c.put_both.ensures.few;
      spent = d.spent;
      within = record {
        ticks = omega (arith, d.ticks, c.requires.within.ticks, c.requires.onward);
        spent = omega (arith, d.cheap, c.requires.within.spent, c.requires.onward);
      };
    }
