use Rattle.std.proofs.Common.{List, length, Ok, sym, ap, ◌∙◌, rules}
use Rattle.model.specs.declared.step.Step.{Step}
use Rattle.processor.specs.Rules.{paired}
use Rattle.processor.proofs.Exact.{exactly}
use Rattle.processor.proofs.ladder.Ladder.fill.Goals as goal

pub returns-in_err-check-clause-exact : goal.returns-in_err-check-clause-exact
returns-in_err-check-clause-exact c =
    exactly c.from_residual.result (paired c.args.speeds c.args.powers) c.args.count
    (ap (λ (s : List Step). length s) (sym c.pair-steps.ensures.value) ∙ c.pair-steps.ensures.len) (search rules)

pub returns-clause-exact : goal.returns-clause-exact
returns-clause-exact c =
    exactly {X = Unit {0}} (Ok tt) (paired c.args.speeds c.args.powers) c.args.count
    (ap (λ (s : List Step). length s) (sym c.pair-steps.ensures.value) ∙ c.pair-steps.ensures.len) (search rules)
