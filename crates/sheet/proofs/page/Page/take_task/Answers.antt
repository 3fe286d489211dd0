use Rattle.std.proofs.Common.{sym, ◌∙◌}
use Rattle.std.proofs.lemmas.Result.{err_from_is_err_and}
use Rattle.sheet.proofs.Taking.{refused_as, seen, task_unladdered, task_refused, good_unentered, task_taken, tasking, task_followed}
use Rattle.sheet.proofs.page.Page.take_task.Goals as goal

pub returns-in_err-ladder-clause-answer : goal.returns-in_err-ladder-clause-answer
returns-in_err-ladder-clause-answer c =
    refused_as _ _ (err_from_is_err_and c.from_residual-in_err-ladder.result c.from_residual-in_err-ladder.ensures.1) ∙ task_unladdered c.args.self.now _ c.args.job c.in_err-ladder.ensures.answer

pub invariant_of-self : goal.invariant_of-self
invariant_of-self c = good_unentered c.self.inside c.enter.new.self c.args.job _ c.self.invariant c.in_err-enter.ensures.answer c.enter.ensures.state

pub returns-in_err-enter-clause-answer : goal.returns-in_err-enter-clause-answer
returns-in_err-enter-clause-answer c =
    let w = seen c.self.invariant c.self.view_is in
    refused_as _ _ (err_from_is_err_and c.from_residual.result c.from_residual.ensures.1)
    ∙ task_refused c.self.inside c.args.self.now c.args.job _ w (sym (tasking c.in-Tasks.field-0 w c.in-Tasks.is).lawful) c.in_err-enter.ensures.answer

pub invariant_of-self-in-Tasks : goal.invariant_of-self-in-Tasks
invariant_of-self-in-Tasks c =
    (task_followed c.self.inside c.args.self.now c.enter.new.self c.in-Tasks.field-0 c.args.job (seen c.self.invariant c.self.view_is) c.requires c.in-Tasks.is
    c.in_ok-enter.ensures.answer c.enter.ensures.state).good

pub returns-in-Tasks-clause-answer : goal.returns-in-Tasks-clause-answer
returns-in-Tasks-clause-answer c =
    (task_followed c.self.inside c.args.self.now c.enter.new.self c.in-Tasks.field-0 c.args.job (seen c.self.invariant c.self.view_is) c.requires c.in-Tasks.is
    c.in_ok-enter.ensures.answer c.enter.ensures.state).answers

pub returns-in-Tasks-clause-after : goal.returns-in-Tasks-clause-after
returns-in-Tasks-clause-after c =
    (task_followed c.self.inside c.args.self.now c.enter.new.self c.in-Tasks.field-0 c.args.job (seen c.self.invariant c.self.view_is) c.requires c.in-Tasks.is
    c.in_ok-enter.ensures.answer c.enter.ensures.state).after

pub invariant_of-self-in_err-enter-2 : goal.invariant_of-self-in_err-enter-2
invariant_of-self-in_err-enter-2 c = good_unentered c.self.inside c.enter-2.new.self c.args.job _ c.self.invariant c.in_err-enter-2.ensures.answer c.enter-2.ensures.state

pub returns-in_err-enter-2-clause-answer : goal.returns-in_err-enter-2-clause-answer
returns-in_err-enter-2-clause-answer c =
    refused_as _ _ (err_from_is_err_and c.from_residual-in_err-enter-2.result c.from_residual-in_err-enter-2.ensures.1)
    ∙ task_refused c.self.inside c.args.self.now c.args.job _ (seen c.self.invariant c.self.view_is) c.in_ok-ladder.ensures.answer c.in_err-enter-2.ensures.answer

pub invariant_of-self-2 : goal.invariant_of-self-2
invariant_of-self-2 c =
    (task_taken c.self.inside c.args.self.now c.enter-2.new.self c.in_ok-ladder.ladder c.args.job (seen c.self.invariant c.self.view_is) c.requires c.in_ok-ladder.ensures.answer
    c.in_ok-ladder.ensures.made c.in_ok-enter-2.ensures.answer c.enter-2.ensures.state).good

pub returns : goal.returns
returns c =
    let t = task_taken c.self.inside c.args.self.now c.enter-2.new.self c.in_ok-ladder.ladder c.args.job (seen c.self.invariant c.self.view_is) c.requires c.in_ok-ladder.ensures.answer
    c.in_ok-ladder.ensures.made c.in_ok-enter-2.ensures.answer c.enter-2.ensures.state in
    record { answer = t.answers; after = t.after }
