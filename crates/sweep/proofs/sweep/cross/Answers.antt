use Rattle.sweep.proofs.Crossing.{cross_leaves, still_ready}
use Rattle.sweep.proofs.sweep.cross.Goals as goal

pub reach-requires-2-clause-bent : goal.reach-requires-2-clause-bent
reach-requires-2-clause-bent c =
    still_ready c.args.cut.now c.args.upper.now c.args.lower.now c.reach.new.other c.reach.new.own c.args.way.now c.reach.new.way c.then_some.result c.then_some-2.result
    c.then_some.ensures c.then_some-2.ensures c.requires.bent.0 c.requires.bent.1 c.reach.ensures.leaves

pub returns-clause-leaves : goal.returns-clause-leaves
returns-clause-leaves c =
    cross_leaves c.args.cut.now c.args.upper.now c.args.lower.now c.reach.new.other c.reach.new.own c.reach-2.new.own c.reach-2.new.other
    c.args.way.now c.reach.new.way c.reach-2.new.way c.then_some.result c.then_some-2.result
    c.then_some.ensures c.then_some-2.ensures c.reach.ensures.leaves c.reach-2.ensures.leaves
