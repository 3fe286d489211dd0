use Rattle.std.proofs.Common.{sym}
use Rattle.processor.specs.Figures.{figures_speed, figures_past}
use Rattle.processor.proofs.formula_kind.FormulaProcessor.speed.Goals as goal

pub returns-then-step-self : goal.returns-then-step-self
returns-then-step-self c =
    let f = c.args.self.now in
    sym (figures_speed f.count f.stride f.constant f.linear f.cubic c.args.step c.if-step-self.true)

pub returns-else-step-self : goal.returns-else-step-self
returns-else-step-self c =
    let f = c.args.self.now in
    sym (figures_past f.count f.stride f.constant f.linear f.cubic c.args.step c.if-step-self.false).0
