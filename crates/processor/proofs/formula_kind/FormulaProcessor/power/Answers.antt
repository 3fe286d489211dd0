use Rattle.std.proofs.Common.{sym, arith}
use Rattle.processor.specs.Figures.{figures_power, figures_past, dearest}
use Rattle.processor.specs.Held.{within}
use Rattle.processor.proofs.formula_kind.FormulaProcessor.power.Goals as goal

pub returns-then-step-self : goal.returns-then-step-self
returns-then-step-self c =
    let f = c.args.self.now in
    sym (figures_past f.count f.stride f.constant f.linear f.cubic c.args.step c.if-step-self.true).1

pub returns : goal.returns
returns c =
    let f = c.args.self.now in
    sym (figures_power f.count f.stride f.constant f.linear f.cubic c.args.step c.if-step-self.false)

-- no step takes more than 1,000,000
pub overflow_mul-result-4 : goal.overflow_mul-result-4
overflow_mul-result-4 c =
    let f = c.args.self.now in
    let w = within f.count f.stride f.constant f.linear f.cubic f.lawful in
    let d = dearest f.constant f.linear f.cubic c.args.step w.constant w.linear w.cubic (omega arith) in
    omega arith
