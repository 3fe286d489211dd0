use Rattle.std.proofs.Common.{sym, ◌∙◌, refl, subst}
use Rattle.std.proofs.lemmas.List.{append-nil}
use Rattle.sweep.specs.Leaves.{Leaves}
use Rattle.sweep.specs.Views.{view}
use Rattle.theory.specs.Sweep.{inner, Funnel}
use Rattle.sweep.proofs.Taking.{take_in_alone, take_in_more}
use Rattle.sweep.proofs.sweep.take_in.Goals as goal

pub returns-then-admit-clause-leaves : goal.returns-then-admit-clause-leaves
returns-then-admit-clause-leaves g c =
    let f = take_in_alone (inner g.W.Wall.upper) c.args.way.now.apex (view c.args.own.now) (view c.args.other.now) c.args.x (sym c.admit.ensures.single ∙ c.if-admit.true) in
    subst (λ (w : Funnel). Leaves w c.admit.new.self c.pass.new.other c.args.way.now c.pass.new.way) (sym f)
    (record { apex = c.pass.ensures.apex; own = c.admit.ensures.points; other = c.pass.ensures.other; out = c.pass.ensures.out })

pub returns-else-admit-clause-leaves : goal.returns-else-admit-clause-leaves
returns-else-admit-clause-leaves g c =
    let f = take_in_more (inner g.W.Wall.upper) c.args.way.now.apex (view c.args.own.now) (view c.args.other.now) c.args.x (sym c.admit.ensures.single ∙ c.if-admit.false) in
    subst (λ (w : Funnel). Leaves w c.admit.new.self c.args.other.now c.args.way.now c.args.way.now) (sym f)
    (record { apex = refl; own = c.admit.ensures.points; other = refl; out = sym (append-nil (view c.args.way.now.corners)) })
