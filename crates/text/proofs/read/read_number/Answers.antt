use Rattle.std.proofs.Common.{sym, ◌∙◌, inl, inr, arith}
use Rattle.text.proofs.Reading.{front_within, front_parted, front_long, none_there, needless, there}
use Rattle.text.proofs.read.read_number.Goals as goal

pub split_at-requires : goal.split_at-requires
split_at-requires c = front_within c.args.text.now _ 11 _ c.front.ensures c.count_digits.ensures

pub value-requires-clause-digits : goal.value-requires-clause-digits
value-requires-clause-digits c =
    (front_parted c.args.text.now _ _ _ _ c.front.ensures c.count_digits.ensures c.split_at.ensures.front c.split_at.ensures.back c.if-digits-gt-DIGITS.false).all

pub returns-in_err-first : goal.returns-in_err-first
returns-in_err-first c =
    let none = c.in_err-first.ensures.item.3 in
    rw c.from_residual.ensures
    (none_there _ _ _ (front_parted c.args.text.now _ _ _ _ c.front.ensures c.count_digits.ensures c.split_at.ensures.front c.split_at.ensures.back (omega (arith, none))) (omega (arith, none)))

pub returns-then-digits-gt-DIGITS : goal.returns-then-digits-gt-DIGITS
returns-then-digits-gt-DIGITS c =
    front_long _ _ _ _ c.front.ensures c.count_digits.ensures c.split_at.ensures.front c.if-digits-gt-DIGITS.true

pub returns-then-digits-gt1 : goal.returns-then-digits-gt1
returns-then-digits-gt1 c =
    needless _ _ _
    (front_parted c.args.text.now _ _ _ _ c.front.ensures c.count_digits.ensures c.split_at.ensures.front c.split_at.ensures.back c.if-digits-gt-DIGITS.false)
    (sym (c.in_ok-first.ensures.item.3.1 0) ∙ c.if-first-eq48.true) c.if-digits-gt1.true

pub returns : goal.returns
returns c =
    let f = c.in_ok-first.ensures.item.3 in
    there _ _ _ _
    (front_parted c.args.text.now _ _ _ _ c.front.ensures c.count_digits.ensures c.split_at.ensures.front c.split_at.ensures.back c.if-digits-gt-DIGITS.false)
    f.0 c.if-digits-gt-DIGITS.false
    (λ z. elim c.else-first-eq48.either [ inl w ↦ omega (arith, w.1, f.0) | inr w ↦ absurd (w (f.1 0 ∙ z)) ])
    c.value.ensures
