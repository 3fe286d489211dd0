use Rattle.std.proofs.Common.{refl, arith}
use Rattle.std.proofs.lemmas.Str.Parse.{digit_at}
use Rattle.text.proofs.Reading.{one_more}
use Rattle.text.proofs.read.value.Goals as goal

pub overflow_mul-n : goal.overflow_mul-n
overflow_mul-n c =
    let l = c.loop-digit in
    let m = one_more c.args.digits.now l.digit-index l.n _ c.requires.digits c.requires.few (omega arith) l.invariant refl in
    omega arith

pub overflow_sub-digit : goal.overflow_sub-digit
overflow_sub-digit c = (digit_at c.args.digits.now c.loop-digit.digit-index c.requires.digits (omega arith)).0

pub overflow_add-n : goal.overflow_add-n
overflow_add-n c =
    let l = c.loop-digit in
    let m = one_more c.args.digits.now l.digit-index l.n c.from.result c.requires.digits c.requires.few (omega arith) l.invariant c.from.ensures in
    omega arith

pub loop-digit-preserved : goal.loop-digit-preserved
loop-digit-preserved c =
    let l = c.loop-digit in
    (one_more c.args.digits.now l.digit-index l.n c.from.result c.requires.digits c.requires.few (omega arith) l.invariant c.from.ensures).0
