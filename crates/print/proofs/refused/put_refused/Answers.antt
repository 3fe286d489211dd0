use Rattle.std.proofs.Common.{◌≡◌, ℕ, ◌+◌, ◌<◌, ◌≤◌, ltb, [], ◌∷◌, length, Some, None, decimal, sym, ap, ◌∙◌, append_assoc, arith, rules, lit<}
use Rattle.std.proofs.lemmas.Fmt.{length-decimal-le}
use Rattle.std.proofs.lemmas.Bool.{lt-ltb, le-ltb}
use Rattle.frame.proofs.Laid.{laid_first}
use Rattle.refusal.proofs.Lines.{first_pass, first_hit}
use Rattle.refusal.specs.Refusals.{told, line as ruled, first_of}
use Rattle.text.proofs.Written.{wrote_on, wrote_as, wrote_first}
use Rattle.print.specs.Texts.{refused_text}
use Rattle.print.proofs.Lengths.{refused_length}
use Rattle.print.proofs.refused.put_refused.Goals as goal

-- the length that was counted
counted : (n m l a b : ℕ) → m ≡ n → a ≡ length (decimal m) → b ≡ length (decimal l) → 10 + a + b ≡ length (refused_text (told n l))
counted n m l a b e f g =
    let h = refused_length n l in
    let i = ap (λ (x : ℕ). length (decimal x)) e in
    omega arith

short : (room long bytes : ℕ) → bytes ≡ long → room < bytes → Some (told 24 bytes) ≡ first_of (ruled (ltb room long) 24 long ∷ [])
short room long bytes e l = ap (λ (x : ℕ). Some (told 24 x)) e ∙ sym (first_hit (ruled (ltb room long) 24 long) [] (lt-ltb room long (omega arith)))

enough : (room long bytes : ℕ) → bytes ≡ long → bytes ≤ room → None ≡ first_of (ruled (ltb room long) 24 long ∷ [])
enough room long bytes e l = sym (first_pass (ruled (ltb room long) 24 long) [] (le-ltb room long (omega arith)))

pub overflow_add-bytes : goal.overflow_add-bytes
overflow_add-bytes c =
    let l = length-decimal-le 20 c.from-number.result (lit< tt) (omega arith) (omega arith) in
    omega (arith, c.number_length.ensures)

pub overflow_add-bytes-2 : goal.overflow_add-bytes-2
overflow_add-bytes-2 c =
    let l = length-decimal-le 20 c.from-number.result (lit< tt) (omega arith) (omega arith) in
    let m = length-decimal-le 20 c.args.line (lit< tt) (omega arith) (omega arith) in
    omega (arith, c.number_length.ensures, c.number_length-2.ensures)

pub returns-then-out-bytes-clause-answer : goal.returns-then-out-bytes-clause-answer
returns-then-out-bytes-clause-answer c =
    short (length c.args.out.now) _ _ (counted c.args.number _ c.args.line _ _ c.from-number.ensures c.number_length.ensures c.number_length-2.ensures) c.if-out-bytes.true

pub returns : goal.returns
unfolding refused_text
returns c =
    let f = c.args.out.now in
    let k = counted c.args.number _ c.args.line _ _ c.from-number.ensures c.number_length.ensures c.number_length-2.ensures in
    let n = ap length c.new-pen.ensures.buffer in
    let x = wrote_on c.word.ensures c.number.ensures (omega (arith, c.if-out-bytes.false)) in
    let y = wrote_on x c.byte.ensures (omega arith) in
    let z = wrote_on y c.number-2.ensures (omega arith) in
    let v = wrote_on z c.byte-2.ensures (omega arith) in
    let e = wrote_as {other = refused_text (told c.from-number.result c.args.line)} v (simp append_assoc) in
    let d = wrote_as e (ap (λ (i : ℕ). refused_text (told i c.args.line)) c.from-number.ensures) in
    let e = wrote_first f d c.new-pen.ensures.start c.new-pen.ensures.buffer in
    record { answer = enough (length f) _ _ k c.if-out-bytes.false; figure = e.0; bytes = (search rules) ∙ e.1 ∙ laid_first (refused_text (told c.args.number c.args.line)) f }
