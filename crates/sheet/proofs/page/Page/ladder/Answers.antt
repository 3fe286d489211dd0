use Rattle.std.proofs.Common.{◌≡◌, List, length, IfOk, ap, subst, ◌∙◌}
use Rattle.model.specs.declared.step.Step.{Step}
use Rattle.processor.specs.Meanings.{ladder_steps}
use Rattle.processor.specs.Rules.{step_lines}
use Rattle.refusal.specs.Refusals.{first_of}
use Rattle.sheet.specs.Sheets.{Sheet, ladder_lines}
use Rattle.sheet.proofs.page.Page.ladder.Goals as goal

pub returns-in_default : goal.returns-in_default
unfolding ladder_lines
returns-in_default c =
    let q = c.as_slice.ensures.value ∙ ap (λ (s : Sheet). s.steps) c.self.view_is in
    record {
      answer = c.of.ensures.answer ∙ ap (λ (xs : List Step). first_of (step_lines xs (length xs))) q;
      made = subst (λ (xs : List Step). IfOk c.of.result (λ l. ladder_steps l ≡ xs)) q c.of.ensures.made;
    }
