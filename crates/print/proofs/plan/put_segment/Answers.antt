use Rattle.std.proofs.Common.{append_assoc, arith}
use Rattle.text.proofs.Written.{wrote_on, wrote_as}
use Rattle.print.specs.Texts.{segment_text}
use Rattle.print.proofs.Lengths.{segment_length}
use Rattle.print.proofs.plan.put_segment.Goals as goal

pub returns : goal.returns
unfolding segment_text
returns c =
    let l = segment_length c.args.segment.now in
    let a = wrote_on c.number.ensures c.byte.ensures (omega arith) in
    let b = wrote_on a c.number-2.ensures (omega arith) in
    wrote_as (wrote_on b c.byte-2.ensures (omega arith)) (simp append_assoc)
