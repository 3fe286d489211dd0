use Rattle.sweep.specs.Views.{newest}
use Rattle.sweep.proofs.Tightened.{tightened}
use Rattle.sweep.proofs.tighten.tighten.Goals as goal

pub returns-clause-after : goal.returns-clause-after
returns-clause-after g c =
    tightened g.W.Wall.upper c.args.apex c.args.chain.now c.kept-k.result (newest c.args.chain.now) c.requires.some c.requires.bent
    c.kept-k.ensures.few c.kept-k.ensures.stays c.kept-k.ensures.goes
