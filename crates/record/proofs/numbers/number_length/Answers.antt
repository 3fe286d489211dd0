use Rattle.std.proofs.Common.{◌/◌, arith}
use Rattle.record.proofs.Groups.{long_last, long_one, long_on}
use Rattle.record.proofs.numbers.number_length.Goals as goal

pub returns-in-0-to-127 : goal.returns-in-0-to-127
returns-in-0-to-127 c = long_one 4 c.args.n (omega arith)

pub returns-in-128-to-16383 : goal.returns-in-128-to-16383
returns-in-128-to-16383 c = long_on 3 c.args.n 1 (omega arith) (long_one 3 (c.args.n / 128) (omega arith))

pub returns-in-16384-to-2097151 : goal.returns-in-16384-to-2097151
returns-in-16384-to-2097151 c =
    let n = c.args.n in
    long_on 3 n 2 (omega arith) (long_on 2 (n / 128) 1 (omega arith) (long_one 2 (n / 128 / 128) (omega arith)))

pub returns-in-2097152-to-268435455 : goal.returns-in-2097152-to-268435455
returns-in-2097152-to-268435455 c =
    let n = c.args.n in
    long_on 3 n 3 (omega arith) (long_on 2 (n / 128) 2 (omega arith) (long_on 1 (n / 128 / 128) 1 (omega arith) (long_one 1 (n / 128 / 128 / 128) (omega arith))))

pub returns-in_default : goal.returns-in_default
returns-in_default c =
    let n = c.args.n in
    long_on 3 n 4 (omega arith)
    (long_on 2 (n / 128) 3 (omega arith) (long_on 1 (n / 128 / 128) 2 (omega arith) (long_on 0 (n / 128 / 128 / 128) 1 (omega arith) (long_last (n / 128 / 128 / 128 / 128)))))
