use Rattle.std.proofs.Common.{get_or, rules, arith}
use Rattle.model.specs.Steps.{no_step}
use Rattle.processor.proofs.Paired.{paired_is, made}
use Rattle.processor.proofs.make.pair.Goals as goal

pub returns-clause-value : goal.returns-clause-value
returns-clause-value c =
    paired_is c.from_fn.result c.args.speeds c.args.powers (omega (arith, c.from_fn.ensures.items.long)) (omega arith)
    (λ k l. made _ _ c.from_fn.result (λ i. record { speed = get_or c.args.speeds i 0; power = get_or c.args.powers i 0 }) (λ i y q e. search rules) 16 c.from_fn.ensures.items k no_step (omega arith))
