use Rattle.std.proofs.Common.{List, [], ◌∷◌, Some, sym, ap, ◌∙◌}
use Rattle.refusal.specs.Refusals.{Told}
use Rattle.processor.specs.declared.rule.Rule.{Rule}
use Rattle.processor.specs.declared.rule.Rule.TheVariants.{Speeds, Powers, Gaps, Bends}
use Rattle.processor.proofs.Tables.{broken, kept}
use Rattle.processor.proofs.check.check.Goals as goal

abbrev all : List Rule
all = Speeds ∷ (Powers ∷ (Gaps ∷ (Bends ∷ [])))

pub returns-in-Some : goal.returns-in-Some
returns-in-Some c =
    ap (λ (t : Told). Some t) c.refusal.ensures
    ∙ (broken all c.args.steps.now c.loop-rule.rule-index c.in-Some.step Speeds c.loop-rule-test.true (sym c.in-Some.ensures)
    ∙ sym c.loop-rule.invariant)

pub loop-rule-preserved : goal.loop-rule-preserved
loop-rule-preserved c =
    c.loop-rule.invariant
    ∙ kept all c.args.steps.now c.loop-rule.rule-index Speeds c.loop-rule-test.true (sym c.in_default.ensures)
