use Rattle.std.proofs.Common.{ℕ, ◌+◌, get_or, set, sym, ap, ◌∙◌, arith}
use Rattle.charges.specs.Rows.{rows_of}
use Rattle.charges.proofs.Raised.{no_charge, row_at, row_set}
use Rattle.charges.proofs.charges.Charges.raise.Goals as goal

pub overflow_add-self : goal.overflow_add-self
overflow_add-self c = let e = row_at c.args.self.now c.args.account in omega (arith, c.requires.room)

pub returns : goal.returns
unfolding rows_of
returns c =
    let t = c.args.self.now in
    row_set t.rows c.args.account ((get_or t.rows c.args.account no_charge).energy + c.args.by)
    ∙ ap (λ (x : ℕ). set (rows_of t) c.args.account (x + c.args.by)) (sym (row_at t c.args.account))
