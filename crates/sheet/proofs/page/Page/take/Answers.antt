use Rattle.std.proofs.Common.{◌≡◌, ◌∙◌, [], ◌∷◌, is_some, ap, sym, rules}
use Rattle.std.proofs.lemmas.Bool.{not_from_false}
use Rattle.grammar.specs.declared.row.Row.{Row}
use Rattle.grammar.specs.declared.row.Row.TheVariants.{Task, Draw}
use Rattle.refusal.specs.Refusals.{outcome, first_of, line as ruled}
use Rattle.sheet.specs.Answers.{fault_outcome}
use Rattle.sheet.specs.Pages.{is_drawn}
use Rattle.sheet.specs.Sheets.{Sheet, row_table}
use Rattle.sheet.proofs.Taking.{after_plan, beneath_decides, undrawn_placed}
use Rattle.sheet.proofs.page.Page.take.Goals as goal

pub returns-in-Drawn-clause-answer : goal.returns-in-Drawn-clause-answer
returns-in-Drawn-clause-answer c = after_plan c.args.self.now c.args.row c.args.line (sym (ap (λ (s : Sheet). s.drawn) c.self.view_is) ∙ ap is_drawn c.in-Drawn.is)

pub returns-in-Task-clause-answer : goal.returns-in-Task-clause-answer
returns-in-Task-clause-answer c =
    let s = c.args.self.now in
    let d = sym (ap (λ (x : Sheet). x.drawn) c.self.view_is) ∙ undrawn_placed c.self.inside.stage c.in_default.not-Drawn in
    let f : fault_outcome c.map_err.result ≡ first_of (ruled (is_some (outcome c.take_task.result)) 32 c.args.line ∷ []) = search rules in
    f
    ∙ beneath_decides s (Task c.in-Task.job) c.args.line (outcome c.take_task.result) (not_from_false _ d) c.take_task.ensures.answer
    ∙ ap (λ (x : Row). first_of (row_table c.args.line s x)) (sym c.in-Task.is)

pub returns-in-Draw-clause-answer : goal.returns-in-Draw-clause-answer
returns-in-Draw-clause-answer c =
    let s = c.args.self.now in
    let d = sym (ap (λ (x : Sheet). x.drawn) c.self.view_is) ∙ undrawn_placed c.self.inside.stage c.in_default.not-Drawn in
    let f : fault_outcome c.map_err-in-Draw.result ≡ first_of (ruled (is_some (outcome c.draw.result)) 32 c.args.line ∷ []) = search rules in
    f
    ∙ beneath_decides s Draw c.args.line (outcome c.draw.result) (not_from_false _ d) c.draw.ensures.answer
    ∙ ap (λ (x : Row). first_of (row_table c.args.line s x)) (sym c.in-Draw.is)
