use Rattle.std.proofs.Common.{◌-◌, arith}
use Rattle.std.proofs.lemmas.List.{length-take-le}
use Rattle.record.proofs.Groups.{groups_some, grouped_none, grouped_on, grouped_all}
use Rattle.record.proofs.numbers.write_number.Goals as goal

pub overflow_sub-last : goal.overflow_sub-last
overflow_sub-last c = omega (arith, groups_some 4 c.args.n)

pub loop-slot-init : goal.loop-slot-init
loop-slot-init c =
    let s = groups_some 4 c.args.n in
    grouped_none c.args.n (c.number_length-last.result - 1) c.args.out.now (omega arith) (omega arith)

pub loop-slot-preserved : goal.loop-slot-preserved
loop-slot-preserved c = grouped_on c.loop-slot.invariant (omega arith)

pub returns : goal.returns
returns c =
    let s = groups_some 4 c.args.n in
    let last = c.number_length-last.result - 1 in
    let t = length-take-le last c.args.out.now (omega arith) in
    record { count = omega arith; bytes = grouped_all c.loop-slot.invariant last c.args.out.now (omega arith) (omega arith) (omega arith) }
