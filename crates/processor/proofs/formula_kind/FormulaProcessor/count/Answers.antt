use Rattle.std.proofs.Common.{sym}
use Rattle.processor.specs.Figures.{figures_length}
use Rattle.processor.proofs.formula_kind.FormulaProcessor.count.Goals as goal

pub returns : goal.returns
returns c =
    let f = c.args.self.now in
    sym (figures_length f.count f.stride f.constant f.linear f.cubic)
