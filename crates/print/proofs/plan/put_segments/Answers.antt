use Rattle.std.proofs.Common.{ap, sym, arith}
use Rattle.std.proofs.lemmas.List.{take_all}
use Rattle.text.proofs.Written.{wrote_none, wrote_on, wrote_as}
use Rattle.print.specs.Texts.{segments_text}
use Rattle.print.proofs.Lengths.{next_segment, segments_more, segments_within}
use Rattle.print.proofs.plan.put_segments.Goals as goal

pub loop-segment-init : goal.loop-segment-init
unfolding segments_text
loop-segment-init c = wrote_none _

pub put_segment-requires : goal.put_segment-requires
put_segment-requires c =
    let l = c.loop-segment in
    let n = next_segment c.args.segments.now l.segment-index (omega arith) in
    omega (arith, l.invariant.place, l.invariant.size, n, c.requires)

pub loop-segment-preserved : goal.loop-segment-preserved
loop-segment-preserved c =
    let l = c.loop-segment in
    let d = segments_within c.args.segments.now l.segment-index in
    wrote_as (wrote_on l.invariant c.put_segment.ensures (omega (arith, l.invariant.place, c.requires))) (sym (segments_more c.args.segments.now l.segment-index (omega arith)))

pub returns : goal.returns
returns c = wrote_as c.loop-segment.invariant (ap segments_text (take_all _ c.args.segments.now (omega arith)))
