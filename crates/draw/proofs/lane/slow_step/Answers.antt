use Rattle.std.proofs.Common.{◌*◌, ◌-◌, ◌<◌, ◌≤◌, suc, ◌∙◌, arith, rules, tests}
use Rattle.std.proofs.lemmas.Iterator.{first_from_Range}
use Rattle.model.specs.Steps.{speed_at}
use Rattle.draw.proofs.Climbing.{slow_found}
use Rattle.draw.proofs.lane.slow_step.Goals as goal

pub returns : goal.returns
returns g c =
    let steps = g.P.Processor.steps c.args.processor.now in
    c.unwrap_or.ensures
    ∙ slow_found steps (g.met.P.Processor.lawful c.args.processor.now) c.args.from c.args.to c.find.result c.from-run.result c.from-rise.result (c.count-most.result - 2)
    (omega (arith, c.from-run.ensures, c.saturating_sub.ensures)) (omega (arith, c.from-rise.ensures, c.saturating_sub-2.ensures)) (omega (arith, c.count-most.ensures))
    (first_from_Range _ _ _ _ (λ i. c.from-rise.result < speed_at steps (suc i) * c.from-run.result) (λ i. speed_at steps (suc i) * c.from-run.result ≤ c.from-rise.result) c.find.ensures.ran
    (λ x q k. grind (arith, tests))
    (λ x q k. (search rules, grind (arith, tests))))
