use Rattle.std.proofs.Common.{◌+◌, ap, add-one, arith}
use Rattle.model.specs.Steps.{speed_at, gap}
use Rattle.model.specs.declared.point.Point.{Point}
use Rattle.theory.proofs.Slow.{slow_known}
use Rattle.theory.proofs.Tangent.{gap_positive}
use Rattle.draw.specs.Lanes.{end_at}
use Rattle.draw.proofs.Bounds.{speed_safe}
use Rattle.draw.proofs.lane.Lane.at.Goals as goal

pub overflow_add-slow : goal.overflow_add-slow
overflow_add-slow g c =
    let lawful = g.met.P.Processor.lawful c.args.processor.now in
    let k = slow_known (g.P.Processor.steps c.args.processor.now) lawful (record { from = c.begin_at-from.result; to = end_at c.args.corners.now c.args.number }) in
    omega (arith, lawful.most, c.slow_step-slow.ensures)

pub invariant_of-result : goal.invariant_of-result
unfolding gap
invariant_of-result g c =
    let steps = g.P.Processor.steps c.args.processor.now in
    let lawful = g.met.P.Processor.lawful c.args.processor.now in
    let slow = c.slow_step-slow.result in
    let k = slow_known steps lawful (record { from = c.begin_at-from.result; to = end_at c.args.corners.now c.args.number }) in
    let piece = c.requires.bounded in
    let t = ap (λ (p : Point). p.time) c.begin_at-from.ensures in
    let h = ap (λ (p : Point). p.height) c.begin_at-from.ensures in
    let v = speed_safe steps lawful slow in
    let n = speed_safe steps lawful (slow + 1) in
    let e = ap (speed_at steps) (add-one slow) in
    let w = gap_positive steps lawful slow (omega (arith, c.slow_step-slow.ensures)) in
    record {
      onward = omega arith;
      soon = piece.soon;
      low = omega arith;
      high = piece.high;
      slower = omega (arith, lawful.most, c.slow_step-slow.ensures);
      slow_speed = omega (arith, c.speed-speed.ensures);
      some_gap = omega (arith, c.speed-speed.ensures, c.speed.ensures, c.saturating_sub-gap.ensures);
      least_gap = omega (arith, c.speed-speed.ensures, c.speed.ensures, c.saturating_sub-gap.ensures);
    }

pub returns : goal.returns
unfolding gap
returns g c =
    let steps = g.P.Processor.steps c.args.processor.now in
    let e = ap (speed_at steps) (add-one c.slow_step-slow.result) in
    record {
      number = cc;
      from = c.begin_at-from.ensures;
      to = cc;
      slow = cc;
      speed = cc;
      gap = cc;
    }
