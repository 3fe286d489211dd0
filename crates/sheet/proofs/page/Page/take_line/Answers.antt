use Rattle.std.proofs.Common.{◌≡◌, Some, None, Option, ap, sym, ◌∙◌}
use Rattle.std.specs.Option.{ok_or}
use Rattle.std.proofs.lemmas.Result.{err_from_is_err_and}
use Rattle.grammar.specs.declared.row.Row.{Row}
use Rattle.sheet.specs.declared.fault.Fault.TheVariants.{Malformed}
use Rattle.sheet.proofs.Lines.{line_long, line_said}
use Rattle.sheet.proofs.Taking.{faulted_as}
use Rattle.sheet.proofs.page.Page.take_line.Goals as goal

pub returns-then-text-gt-LONGEST_LINE-clause-answer : goal.returns-then-text-gt-LONGEST_LINE-clause-answer
returns-then-text-gt-LONGEST_LINE-clause-answer c = line_long c.args.line c.args.self.now c.args.text.now c.if-text-gt-LONGEST_LINE.true

pub returns-in_err-row-clause-answer : goal.returns-in_err-row-clause-answer
returns-in_err-row-clause-answer c =
    let y = err_from_is_err_and c.from_residual.result c.from_residual.ensures.1 in
    let i = c.in_err-row.ensures in
    let e = i.value ∙ ap (λ (o : Option Row). ok_or o (Malformed c.args.line)) i.ok_part in
    let m : c.in_err-row.field-0.0 ≡ Malformed c.args.line = cc in
    faulted_as c.from_residual.result (Malformed c.args.line) (y.0, y.1, y.2 ∙ m)
    ∙ line_said c.args.line c.args.self.now c.args.text.now None c.if-text-gt-LONGEST_LINE.false (sym i.ok_part ∙ c.read_row.ensures.value)

pub returns-clause-answer : goal.returns-clause-answer
returns-clause-answer c =
    c.take.ensures.answer
    ∙ line_said c.args.line c.args.self.now c.args.text.now (Some c.in_ok-row.row) c.if-text-gt-LONGEST_LINE.false (sym c.in_ok-row.ensures.ok_part ∙ c.read_row.ensures.value)
