use Rattle.grammar.proofs.Parting.{line_split_at}
use Rattle.grammar.proofs.lines.split_line.Goals as goal

pub returns-in_err-line_end-clause-lines : goal.returns-in_err-line_end-clause-lines
returns-in_err-line_end-clause-lines c = rw c.from_residual.ensures c.in_err-line_end.ensures

pub returns-clause-lines : goal.returns-clause-lines
returns-clause-lines c = line_split_at c.args.text.now _ _ _ c.in_ok-line_end.ensures c.split_at.ensures.front c.split_at.ensures.back
