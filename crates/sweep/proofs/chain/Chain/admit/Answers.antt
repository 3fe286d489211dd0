use Rattle.std.proofs.Common.{◌-◌, List, length, drop, sym, ap, ◌∙◌, arith}
use borrow.Rule.Slice.PartMut.{post_of}
use Rattle.std.proofs.lemmas.List.{length-take-le}
use Rattle.model.specs.declared.point.Point.{Point}
use Rattle.sweep.specs.Views.{view}
use Rattle.theory.specs.Sweep.{inner, tighten}
use Rattle.sweep.proofs.Parts.{lent_length, tightened_part, cut_is, alone_one}
use Rattle.sweep.proofs.chain.Chain.admit.Goals as goal

pub returns-clause-points : goal.returns-clause-points
returns-clause-points g c =
    let s = c.args.self.now in
    let forward = s.forward in
    let ws = c.deref_mut.result.now in
    let e = c.tighten-n.ensures.after ∙ tightened_part (inner g.W.Wall.upper) c.args.apex s.points.items c.push.new.self.items ws c.args.x s.start s.forward c.push.ensures.items c.deref_mut.ensures.value in
    let k = lent_length ws s.start in
    let d = ap (λ (xs : List Point). length xs) c.deref_mut.ensures.value in
    let m = c.tighten-n.ensures.few in
    let l = c.tighten-n.auto.chain in
    let n = c.push.ensures.len in
    ap (drop s.start) c.truncate.ensures.items
    ∙ (cut_is c.push.new.self.items ws c.tighten-n.new.chain (post_of s.start (length ws - s.start) ws) s.start c.tighten-n.result (omega arith) (omega arith) (omega arith) ∙ e)

pub returns-clause-single : goal.returns-clause-single
returns-clause-single g c =
    let s = c.args.self.now in
    let ws = c.deref_mut.result.now in
    let e = c.tighten-n.ensures.after ∙ tightened_part (inner g.W.Wall.upper) c.args.apex s.points.items c.push.new.self.items ws c.args.x s.start s.forward c.push.ensures.items c.deref_mut.ensures.value in
    let m = c.tighten-n.ensures.few in
    let l = c.tighten-n.auto.chain in
    alone_one (tighten (inner g.W.Wall.upper) c.args.apex (view s) c.args.x) c.tighten-n.result
    (ap (λ (ys : List Point). length ys) (sym e) ∙ length-take-le c.tighten-n.result c.tighten-n.new.chain (omega arith))
