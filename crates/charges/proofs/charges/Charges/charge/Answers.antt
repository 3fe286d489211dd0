use Rattle.std.proofs.Common.{arith, rules}
use Rattle.charges.proofs.Raised.{row_found}
use Rattle.charges.proofs.charges.Charges.charge.Goals as goal

pub returns : goal.returns
returns c = let l = c.get.ensures.lookup in row_found c.args.self.now c.args.account c.get.result c.map.result l.0 (l.4 (omega arith)) (search rules)
