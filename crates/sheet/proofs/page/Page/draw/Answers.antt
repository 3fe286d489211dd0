use Rattle.std.proofs.Common.{◌∙◌}
use Rattle.std.proofs.lemmas.Result.{err_from_is_err_and}
use Rattle.sheet.proofs.Taking.{refused_as, seen, draw_unladdered, draw_refused, draw_taken}
use Rattle.sheet.proofs.page.Page.draw.Goals as goal

pub returns-in_err-ladder-clause-answer : goal.returns-in_err-ladder-clause-answer
returns-in_err-ladder-clause-answer c =
    refused_as _ _ (err_from_is_err_and c.from_residual.result c.from_residual.ensures.1) ∙ draw_unladdered c.args.self.now _ c.in_err-ladder.ensures.answer

pub returns-in_err-planned-clause-answer : goal.returns-in_err-planned-clause-answer
returns-in_err-planned-clause-answer c =
    refused_as _ _ (err_from_is_err_and c.from_residual-in_err-planned.result c.from_residual-in_err-planned.ensures.1)
    ∙ draw_refused c.self.inside c.args.self.now c.in_ok-ladder.ladder _ (seen c.self.invariant c.self.view_is) c.in_ok-ladder.ensures.answer c.in_ok-ladder.ensures.made c.in_err-planned.ensures.answer

pub invariant_of-self-2 : goal.invariant_of-self-2
invariant_of-self-2 c =
    (draw_taken c.self.inside c.args.self.now c.in_ok-ladder.ladder c.plan.new.buffer c.in_ok-planned.planned (seen c.self.invariant c.self.view_is) c.in_ok-ladder.ensures.answer
    c.in_ok-ladder.ensures.made c.plan.auto.buffer c.in_ok-planned.ensures.answer).good

pub returns-clause-answer : goal.returns-clause-answer
returns-clause-answer c =
    (draw_taken c.self.inside c.args.self.now c.in_ok-ladder.ladder c.plan.new.buffer c.in_ok-planned.planned (seen c.self.invariant c.self.view_is) c.in_ok-ladder.ensures.answer
    c.in_ok-ladder.ensures.made c.plan.auto.buffer c.in_ok-planned.ensures.answer).answers
