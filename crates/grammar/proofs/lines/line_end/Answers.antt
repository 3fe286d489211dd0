use Rattle.std.proofs.Common.{arith}
use Rattle.grammar.proofs.Parting.{line_found, line_missing, none_past}
use Rattle.grammar.proofs.lines.line_end.Goals as goal

pub returns-in_err-get : goal.returns-in_err-get
returns-in_err-get c = rw c.from_residual.ensures (none_past c.args.sheet.now c.args.start (omega (arith, c.in_err-get.ensures.lookup)))

pub returns-in_err-length : goal.returns-in_err-length
returns-in_err-length c =
    rw c.from_residual-in_err-length.ensures (line_missing c.args.sheet.now c.args.start _ c.in_ok-get.ensures.lookup.0.2 c.in_err-length.ensures)

pub returns : goal.returns
returns c = line_found c.args.sheet.now c.args.start _ c.in_ok-length.length c.in_ok-get.ensures.lookup.0.2 c.in_ok-length.ensures
