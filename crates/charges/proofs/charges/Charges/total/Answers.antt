use Rattle.std.proofs.Common.{◌≡◌, ◌<◌, ◌^◌, ◌∙◌, arith, rules}
use Rattle.std.specs.List.{sum_by}
use Rattle.charges.specs.declared.charges.Charge.{Charge}
use Rattle.charges.proofs.Raised.{rows_sum}
use Rattle.charges.proofs.charges.Charges.total.Goals as goal

pub sum-requires-clause-fits : goal.sum-requires-clause-fits
sum-requires-clause-fits c =
    let e = rows_sum c.args.self.now in
    let h : sum_by (λ (r : Charge). r.energy) c.args.self.now.rows < 2 ^ 64 = omega (arith, c.requires) in
    search rules

pub returns : goal.returns
returns c =
    let e : c.sum.result ≡ sum_by (λ (r : Charge). r.energy) c.args.self.now.rows = search rules in
    e ∙ rows_sum c.args.self.now
