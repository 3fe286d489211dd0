use Rattle.std.proofs.Common.{arith}
use Rattle.std.proofs.lemmas.List.{length-set}
use Rattle.record.proofs.Begun.{room_for, room_next, begun_none, begun_on, begun_all}
use Rattle.record.proofs.write.put.Goals as goal

pub bounds-frame-offset : goal.bounds-frame-offset
bounds-frame-offset c = omega (arith, room_for c.args.kind c.args.offset c.args.segments.now c.args.frame.now c.requires)

pub put_number-at-requires : goal.put_number-at-requires
put_number-at-requires c =
    omega (arith, room_for c.args.kind c.args.offset c.args.segments.now c.args.frame.now c.requires, length-set c.args.frame.now c.args.offset c.args.kind)

pub loop-segment-init : goal.loop-segment-init
loop-segment-init c =
    begun_none c.put_number-at.result c.args.segments.now c.put_number-at.new.frame
    (omega (arith, room_for c.args.kind c.args.offset c.args.segments.now c.args.frame.now c.requires, length-set c.args.frame.now c.args.offset c.args.kind, c.put_number-at.ensures.place, c.put_number-at.auto.frame))

pub put_number-at-requires-in-loop-segment : goal.put_number-at-requires-in-loop-segment
put_number-at-requires-in-loop-segment c = omega (arith, room_next c.loop-segment.invariant c.loop-segment-test.true)

pub put_number-at-requires-in-loop-segment-2 : goal.put_number-at-requires-in-loop-segment-2
put_number-at-requires-in-loop-segment-2 c =
    omega (arith, room_next c.loop-segment.invariant c.loop-segment-test.true, c.put_number-at-in-loop-segment.ensures.place, c.put_number-at-in-loop-segment.auto.frame)

pub loop-segment-preserved : goal.loop-segment-preserved
loop-segment-preserved c =
    let p = c.put_number-at-in-loop-segment in
    let q = c.put_number-at-in-loop-segment-2 in
    begun_on c.loop-segment.invariant c.loop-segment-test.true (record { place = p.ensures.place; bytes = p.ensures.bytes })
    (record { place = q.ensures.place; bytes = q.ensures.bytes }) p.auto.frame q.auto.frame

pub returns : goal.returns
returns c =
    let p = c.put_number-at in
    begun_all _ _ _ c.requires (record { place = p.ensures.place; bytes = p.ensures.bytes }) c.loop-segment.invariant c.loop-segment-test.false
