use Rattle.std.proofs.Common.{arith}
use Rattle.record.proofs.Written.{sized, answer_short, answer_fits, written_back}
use Rattle.record.proofs.write.write.Goals as goal

pub returns-then-saturating_sub-length-clause-answer : goal.returns-then-saturating_sub-length-clause-answer
returns-then-saturating_sub-length-clause-answer g c = answer_short (sized _ c.count.ensures c.in_ok-length.ensures) (omega arith)

pub put-requires : goal.put-requires
put-requires g c =
    let w = sized c.kind_number.result c.count.ensures c.in_ok-length.ensures in
    omega (arith, w.long, w.some)

pub returns-clause-answer : goal.returns-clause-answer
returns-clause-answer g c = answer_fits (sized _ c.count.ensures c.in_ok-length.ensures) (omega arith)

pub returns-clause-back : goal.returns-clause-back
returns-clause-back g c = λ room m.
    let w = sized g.P.Processor.bears c.count.ensures c.in_ok-length.ensures in
    written_back _ _ w (g.met.P.Processor.lawful c.args.processor.now).most (omega (arith, w.some)) c.put.ensures c.kind_number.ensures m
