use Rattle.std.proofs.Common.{sym, refl, subst}
use Rattle.std.proofs.lemmas.List.{append-nil}
use Rattle.sweep.specs.Leaves.{Leaves}
use Rattle.sweep.specs.Views.{view}
use Rattle.theory.specs.Sweep.{inner, Funnel}
use Rattle.sweep.proofs.Taking.{reached_some, reached_none}
use Rattle.sweep.proofs.sweep.reach.Goals as goal

pub returns-in-Some-clause-leaves : goal.returns-in-Some-clause-leaves
returns-in-Some-clause-leaves g c =
    let f = reached_some (inner g.W.Wall.upper) c.args.x c.in-Some.x c.args.way.now.apex (view c.args.own.now) (view c.args.other.now) c.in-Some.is in
    subst (λ (w : Funnel). Leaves w c.take_in.new.own c.take_in.new.other c.args.way.now c.take_in.new.way) (sym f) c.take_in.ensures.leaves

pub returns-in_default-clause-leaves : goal.returns-in_default-clause-leaves
returns-in_default-clause-leaves g c =
    let f = reached_none (inner g.W.Wall.upper) c.args.x c.args.way.now.apex (view c.args.own.now) (view c.args.other.now) c.in_default.is in
    subst (λ (w : Funnel). Leaves w c.args.own.now c.args.other.now c.args.way.now c.args.way.now) (sym f)
    (record { apex = refl; own = refl; other = refl; out = sym (append-nil (view c.args.way.now.corners)) })
