use Rattle.std.proofs.Common.{drop, sym, ap, ◌∙◌, List, ◌∷◌, arith}
use Rattle.model.specs.declared.point.Point.{Point}
use Rattle.sweep.specs.Views.{view}
use Rattle.theory.specs.Sweep.{inner, pass}
use Rattle.sweep.proofs.Passes.{first_is, first_none, along_more, along_stop, along_end}
use Rattle.sweep.proofs.pass.pass.Goals as goal

pub returns-then-not-inward : goal.returns-then-not-inward
returns-then-not-inward g c =
    let o = view c.loop-c.other in
    let i = c.loop-c.invariant in
    let s = along_stop (inner g.W.Wall.upper) c.args.x (view c.loop-c.way.corners) c.loop-c.way.apex c.in-Some.c o (drop 1 o) (view c.args.way.now.corners)
    (pass (inner g.W.Wall.upper) c.args.x c.args.way.now.apex (view c.args.other.now)) i.0 (first_is o c.in-Some.c c.first.result c.first.ensures c.in-Some.is) c.if-not-inward.ensures in
    record { apex = s.0; other = s.1; out = s.2; places = (i.1, i.2, i.3) }

pub loop-c-preserved : goal.loop-c-preserved
loop-c-preserved g c =
    let o = view c.loop-c.other in
    let i = c.loop-c.invariant in (
      along_more (inner g.W.Wall.upper) c.args.x (view c.loop-c.way.corners) (view c.put.new.self) c.loop-c.way.apex c.in-Some.c o (view c.advance.new.self) (view c.args.way.now.corners)
          (pass (inner g.W.Wall.upper) c.args.x c.args.way.now.apex (view c.args.other.now)) i.0
          (first_is o c.in-Some.c c.first.result c.first.ensures c.in-Some.is ∙ ap (λ (w : List Point). c.in-Some.c ∷ w) (sym c.advance.ensures.points))
          c.if-not-inward.ensures c.put.ensures.points,
      c.advance.ensures.places.1 ∙ i.1,
      c.put.ensures.places.0 ∙ i.2,
      omega (arith, c.put.ensures.places.1, c.advance.ensures.places.0, i.3),
    )

pub returns : goal.returns
returns g c =
    let o = view c.loop-c.other in
    let i = c.loop-c.invariant in
    let s = along_end (inner g.W.Wall.upper) c.args.x (view c.loop-c.way.corners) c.loop-c.way.apex o (view c.args.way.now.corners)
    (pass (inner g.W.Wall.upper) c.args.x c.args.way.now.apex (view c.args.other.now)) i.0 (first_none o c.first.result c.first.ensures c.in_default.is) in
    record { apex = s.0; other = s.1; out = s.2; places = (i.1, i.2, i.3) }
