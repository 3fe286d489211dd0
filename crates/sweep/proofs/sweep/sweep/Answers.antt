use Rattle.std.proofs.Common.{◌≡◌, ◌+◌, ◌-◌, ◌++◌, ◌∷◌, [], true, ℕ, length, get_or, take, drop, ◌∙◌, subst, arith}
use Rattle.std.proofs.lemmas.List.{drop_all}
use Rattle.sweep.specs.Swept.{no_cut, stake_at, swept}
use Rattle.sweep.specs.Views.{view}
use Rattle.sweep.proofs.Crossing.{swept_few, swept_end}
use Rattle.sweep.proofs.Going.{going_start, going_more, next_later, rest_at, rest_end}
use Rattle.sweep.proofs.sweep.sweep.Goals as goal

pub returns-in_default : goal.returns-in_default
returns-in_default c = c.clear.ensures.points ∙ swept_few c.args.cuts.now (omega arith)

pub loop-cut-init : goal.loop-cut-init
loop-cut-init c = record {
  going =
      going_start c.args.cuts.now (view c.clear.new.self) c.default-way.result (view c.new-upper.result) (view c.new-lower.result) c.in-len2-up.len_at_least
      c.clear.ensures.points c.default-way.ensures c.new-upper.ensures.points c.new-lower.ensures.points;
  above = omega (arith, c.new-upper.ensures.places);
  below = omega (arith, c.new-lower.ensures.places);
  tally = omega (arith, c.clear.ensures.places, c.new-upper.ensures.places, c.new-lower.ensures.places);
}

pub cross-requires : goal.cross-requires
cross-requires c =
    let i = c.loop-cut.invariant in
    let k = c.loop-cut.cut-index in
    let (e, l) = rest_at c.args.cuts.now k c.loop-cut-test.true in
    let few = c.requires.few in
    let after = next_later c.args.cuts.now k (get_or (take (length c.args.cuts.now - 1) (drop 1 c.args.cuts.now)) k no_cut) c.requires.rising l e in
    record {
      room = (omega arith, omega arith);
      tally = i.tally;
      bent = (((get_or c.args.cuts.now k no_cut).time, after, i.going.1), ((get_or c.args.cuts.now k no_cut).time, after, i.going.2));
    }

pub loop-cut-preserved : goal.loop-cut-preserved
loop-cut-preserved c =
    let i = c.loop-cut.invariant in
    let p = c.cross.ensures.places in
    let (e, l) = rest_at c.args.cuts.now c.loop-cut.cut-index c.loop-cut-test.true in
    record {
      going =
          going_more c.args.cuts.now c.loop-cut.cut-index (get_or (take (length c.args.cuts.now - 1) (drop 1 c.args.cuts.now)) c.loop-cut.cut-index no_cut)
          c.loop-cut.upper c.loop-cut.lower c.cross.new.upper c.cross.new.lower c.loop-cut.way c.cross.new.way c.requires.rising l e i.going c.cross.ensures.leaves;
      above = omega arith;
      below = omega arith;
      tally = p.3;
    }

pub put-requires : goal.put-requires
put-requires c =
    let i = c.loop-cut.invariant in
    let u = c.loop-cut.upper.forward in
    let l = c.loop-cut.lower.forward in
    let few = c.requires.few in
    omega arith

pub returns : goal.returns
returns c =
    let i = c.loop-cut.invariant in
    let k = c.loop-cut.cut-index in
    let e = rest_end c.args.cuts.now k c.in-len2-up.len_at_least c.loop-cut.auto.cut-index-end c.loop-cut-test.false in
    let two = c.in-len2-up.len_at_least in
    swept_end (view c.loop-cut.way.corners) (view c.put.new.self) c.loop-cut.way.apex (view c.loop-cut.upper) (view c.loop-cut.lower) (get_or c.args.cuts.now k no_cut)
    (drop (k + 1) c.args.cuts.now) (swept c.args.cuts.now) i.going.0 (drop_all (k + 1) c.args.cuts.now (omega arith))
    (subst (λ (j : ℕ). view c.put.new.self ≡ view c.loop-cut.way.corners ++ (stake_at true (get_or c.args.cuts.now j no_cut) ∷ [])) e c.put.ensures.points)
