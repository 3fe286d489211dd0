use Rattle.std.proofs.Common.{None, refl, rules}
use Rattle.grammar.proofs.Saying.{found, row_by, empty_line, unlettered}
use Rattle.grammar.proofs.rows.read_row.Goals as goal

pub returns-in_err-letter : goal.returns-in_err-letter
returns-in_err-letter c =
    let x = empty_line c.args.line.now c.in_err-letter.ensures.cases in
    rw c.from_residual.ensures (record { value = found c.args.line.now None x; exact = x })

pub returns-in-T-clause-value : goal.returns-in-T-clause-value
returns-in-T-clause-value c = row_by _ _ _ _ _ c.in_ok-letter.ensures.cases.0 c.in-T.is c.read_rung.ensures

pub returns-in-J-clause-value : goal.returns-in-J-clause-value
returns-in-J-clause-value c = row_by _ _ _ _ _ c.in_ok-letter.ensures.cases.0 c.in-J.is c.read_task.ensures

pub returns-in-P-clause-value : goal.returns-in-P-clause-value
returns-in-P-clause-value c = row_by _ _ _ _ _ c.in_ok-letter.ensures.cases.0 c.in-P.is c.read_draw.ensures

pub returns-in_default-clause-value : goal.returns-in_default-clause-value
returns-in_default-clause-value c =
    row_by _ _ _ _ None c.in_ok-letter.ensures.cases.0 refl (unlettered _ c.in_ok-letter.text.now (λ e. search (rules, e)) (λ e. search (rules, e)) (λ e. search (rules, e)))
