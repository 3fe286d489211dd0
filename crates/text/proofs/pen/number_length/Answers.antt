use Rattle.std.proofs.Common.{ℕ, zero, suc, ◌+◌, ◌/◌, ◌%◌, ◌^◌, ◌<◌, ◌≤◌, length, decimal, sym, ap, ◌∙◌, arith}
use Rattle.std.proofs.Math.Nat.{pow-succ'}
use Rattle.std.proofs.lemmas.Fmt.{decimal_digit, decimal_step, decimal_nonempty, length-decimal-le}
use Rattle.std.proofs.lemmas.List.{length_push}
use Rattle.text.proofs.pen.number_length.Goals as goal

some_power : (k : ℕ) → 1 ≤ 10 ^ k
some_power zero = omega arith
some_power (suc k) = let p = pow-succ' 10 k in let q = some_power k in omega arith

-- a number that is no less than a power of ten has more digits than its exponent
more_digits : (k n : ℕ) → 10 ^ k ≤ n → n < 2 ^ 64 → k < length (decimal n)
more_digits zero n l b = decimal_nonempty n b
more_digits (suc k) n l b =
    let p = pow-succ' 10 k in
    let q = some_power k in
    let h : 10 ≤ n = omega arith in
    let d = ap length (decimal_step n h b) ∙ length_push (decimal (n / 10)) (48 + n % 10) in
    let r = more_digits k (n / 10) (omega arith) (omega arith) in
    omega arith

pub returns-in-Some : goal.returns-in-Some
returns-in-Some c =
    let e = c.in-Some.ensures in
    let p = pow-succ' 10 c.in-Some.log in
    let m = more_digits c.in-Some.log c.args.n e.power_le c.ranges.n.fits in
    let l = length-decimal-le (suc c.in-Some.log) c.args.n (omega arith) (omega arith) c.ranges.n.fits in
    omega arith

pub returns-in-None : goal.returns-in-None
returns-in-None c =
    let d = ap length (decimal_digit c.args.n (omega (arith, c.in-None.ensures.none))) in
    sym d
