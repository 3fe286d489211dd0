use Rattle.std.proofs.Common.{arith}
use Rattle.model.specs.Plan.{segment}
use Rattle.draw.proofs.Adding.{last_ticks, put_same, put_other, put_first}
use Rattle.draw.proofs.put.append.Goals as goal
use Rattle.draw.proofs.put.append.Goals.{else-count-gt0-via-then-count-gt0+else-out-count, else-count-gt0-via-else-count-gt0}

pub overflow_add-out : goal.overflow_add-out
overflow_add-out c =
    let a = last_ticks c.args.out.now c.args.count (record { step = 0; ticks = 0 }) c.if-count-gt0.true (omega (arith, c.requires.room)) in
    omega (arith, c.requires.short)

pub returns-then-out-count : goal.returns-then-out-count
unfolding segment
returns-then-out-count c = record {
  runs = put_same c.args.out.now c.args.count c.args.run (record { step = 0; ticks = 0 }) c.if-count-gt0.true (omega (arith, c.requires.room)) c.requires.some c.if-out-count.true;
  few = omega arith;
}

pub returns : goal.returns
returns c = record {
  runs = elim c.else-count-gt0.branch [
    | else-count-gt0-via-then-count-gt0+else-out-count w ↦
        put_other c.args.out.now c.args.count c.args.run (record { step = 0; ticks = 0 }) w.if-count-gt0.true c.requires.room c.requires.some w.if-out-count.false
    | else-count-gt0-via-else-count-gt0 w ↦ put_first c.args.out.now c.args.count c.args.run (omega (arith, w.if-count-gt0.false)) c.requires.room c.requires.some
  ];
  few = omega arith;
}
