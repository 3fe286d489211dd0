use Rattle.std.proofs.Common.{arith}
use Rattle.std.proofs.lemmas.Bool.Decides.{nat_tests}
use Rattle.survey.proofs.Counted.{span_soon, cut_is}
use Rattle.survey.proofs.merge.cut_at.Goals as goal
use Rattle.survey.proofs.merge.cut_at.Goals.{then-before-after, else-before-after}

pub overflow_cast-result : goal.overflow_cast-result
overflow_cast-result c = let s = span_soon c.args.standing.jobs.now c.args.standing.order in omega arith

pub returns : goal.returns
returns c =
    cut_is c.args.standing.jobs.now c.args.t c.args.before c.args.after c.if-before-after.result c.requires.held c.requires.led c.requires.within
    (elim c.if-before-after.branch [ then-before-after w ↦ grind (arith, nat_tests) | else-before-after w ↦ grind (arith, nat_tests) ])
