use Rattle.std.proofs.Common.{sym}
use Rattle.std.proofs.lemmas.List.{drop-drop}
use Rattle.sweep.proofs.chain.Chain.advance.Goals as goal

pub returns-clause-points : goal.returns-clause-points
returns-clause-points c = sym (drop-drop 1 c.args.self.now.start c.args.self.now.points.items)
