use Rattle.std.proofs.Common.{◌<◌, ℕ, List, length, sym, ap, ◌∙◌, subst, arith, rules}
use Rattle.model.specs.Sums.{sum_of}
use Rattle.model.specs.Plan.{energy}
use Rattle.model.specs.declared.cut.Cut.{Cut}
use Rattle.draw.proofs.Along.{cuts_begin, survey_length}
use Rattle.draw.proofs.Going.{Going, corners_there, bounded_first, going_start, can_advance, can_draw, going_next, going_end, nothing_drawn}
use Rattle.draw.proofs.Pairs.{left_all, turn_read, left_more, left_end}
use Rattle.draw.proofs.draw.draw.Goals as goal

pub returns-then-is_empty : goal.returns-then-is_empty
unfolding energy sum_of
returns-then-is_empty g c =
    let e = nothing_drawn (g.P.Processor.steps c.args.processor.now) c.args.jobs.now c.args.corners.now (search rules) in
    record {
      plan = c.clear.ensures.made ∙ sym e;
      few = search rules;
      spent = c.clear.ensures.figures.1 ∙ sym (ap (energy (g.P.Processor.steps c.args.processor.now)) e);
    }

pub at-lane-requires : goal.at-lane-requires
at-lane-requires g c =
    let some : 0 < length c.args.jobs.now = search rules in
    record {
      known = corners_there c.requires.drawable c.requires.short c.requires.light some;
      bounded = bounded_first c.requires.drawable c.requires.short c.requires.light some;
    }

pub loop-pair-init : goal.loop-pair-init
loop-pair-init g c =
    let begins = (cuts_begin c.args.jobs.now).1 in
    let n = survey_length c.args.jobs.now in
    let e = ap (λ (xs : List Cut). length xs) c.requires.cuts in
    let (left, z) = left_all {held = c.args.cuts.now} {s = c.into_iter-pair-iterator.result} (search rules) (search rules) (omega arith) in
    record {
      left = left;
      going =
          subst (λ (k : ℕ). Going (g.P.Processor.steps c.args.processor.now) c.args.jobs.now c.args.corners.now k c.at-lane.result c.clear.new.self) (sym z)
          (going_start c.requires.drawable c.requires.short c.requires.light c.at-lane.result c.clear.new.self (search rules) c.at-lane.ensures c.clear.ensures.made c.clear.ensures.figures.0 c.clear.ensures.figures.1);
    }

pub advance-requires : goal.advance-requires
advance-requires g c =
    let i = c.loop-pair.invariant in
    let r = turn_read i.left c.next.new.self c.next.ensures.steps c.in-Some.is c.args.jobs.now c.requires.cuts in
    let a = can_advance c.requires.drawable c.requires.short c.requires.light i.going r in
    record { known = λ m. (a m).0; bounded = λ m. (a m).1 }

pub stretch-requires : goal.stretch-requires
stretch-requires g c =
    let i = c.loop-pair.invariant in
    let r = turn_read i.left c.next.new.self c.next.ensures.steps c.in-Some.is c.args.jobs.now c.requires.cuts in
    let (on, ready, within) = can_draw c.requires.drawable c.requires.short c.requires.light i.going r c.advance.ensures.ended c.advance.ensures.going in
    record {
      begun = ready.begun;
      onward = omega arith;
      going = ready.going;
      fits = ready.fits;
      room =
          let f = i.going.few in
          let n = survey_length c.args.jobs.now in
          let e = ap (λ (xs : List Cut). length xs) c.requires.cuts in
          let m = r.more in
          omega (arith, c.requires.few);
      within = within;
    }

pub loop-pair-preserved : goal.loop-pair-preserved
loop-pair-preserved g c =
    let i = c.loop-pair.invariant in
    let r = turn_read i.left c.next.new.self c.next.ensures.steps c.in-Some.is c.args.jobs.now c.requires.cuts in
    let (left, z) = left_more i.left c.next.new.self c.next.ensures.steps c.in-Some.is in
    record {
      left = left;
      going =
          subst (λ (k : ℕ). Going (g.P.Processor.steps c.args.processor.now) c.args.jobs.now c.args.corners.now k c.advance.new.self c.stretch.new.self) z
          (going_next c.requires.drawable c.requires.short c.requires.light i.going r c.advance.ensures.ended c.advance.ensures.going
          c.stretch.new.self c.stretch.ensures.runs c.stretch.ensures.few c.stretch.ensures.spent c.stretch.ensures.within);
    }

pub returns : goal.returns
returns g c =
    let i = c.loop-pair.invariant in
    let n = survey_length c.args.jobs.now in
    let e = ap (λ (xs : List Cut). length xs) c.requires.cuts in
    let l = left_end i.left c.in-None.ensures.steps.1.0 in
    let (plan, spent) = going_end c.requires.drawable c.requires.short c.requires.light i.going (omega arith) in
    let f = i.going.few in
    let some = i.left.some in
    record { plan = plan; few = omega (arith, c.requires.few); spent = spent }
