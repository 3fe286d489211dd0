use Rattle.std.proofs.Common.{◌∙◌, arith}
use Rattle.queue.proofs.Order.{ordered_from}
use Rattle.survey.proofs.Rising.{cuts_length}
use Rattle.survey.proofs.Merged.{at_start, at_within, at_next, at_end}
use Rattle.survey.proofs.merge.survey.Goals as goal

pub loop-after-init : goal.loop-after-init
loop-after-init c = at_start c.args.standing.jobs.now c.clear.new.self.items c.default-before.result c.clear.ensures c.default-before.ensures

pub cut_at-requires-clause-within : goal.cut_at-requires-clause-within
cut_at-requires-clause-within c =
    at_within c.args.standing.jobs.now c.loop-after.cuts.items c.loop-after.t c.loop-after.before (ordered_from c.args.standing.jobs.now c.args.standing.order) c.loop-after.invariant

pub push-requires : goal.push-requires
push-requires c = let l = cuts_length c.args.standing.jobs.now in let m = c.loop-after.invariant.more in let f = c.args.standing.few in omega arith

pub returns-then-after-standing-clause-cuts : goal.returns-then-after-standing-clause-cuts
returns-then-after-standing-clause-cuts c =
    c.push.ensures.items
    ∙ at_end c.args.standing.jobs.now (ordered_from c.args.standing.jobs.now c.args.standing.order) c.loop-after.cuts.items c.loop-after.t c.loop-after.before
    c.advance-after.result c.cut_at.result c.loop-after.invariant c.advance-after.ensures c.cut_at.ensures c.if-after-standing.true

pub returns-then-after-standing-clause-most : goal.returns-then-after-standing-clause-most
returns-then-after-standing-clause-most c =
    let l = cuts_length c.args.standing.jobs.now in
    let m = c.loop-after.invariant.more in
    let p = c.push.ensures.len in
    let f = c.args.standing.few in
    omega arith

pub returns-then-after-standing-clause-each : goal.returns-then-after-standing-clause-each
returns-then-after-standing-clause-each c =
    let l = cuts_length c.args.standing.jobs.now in
    let m = c.loop-after.invariant.more in
    let p = c.push.ensures.len in
    omega arith

pub loop-after-preserved : goal.loop-after-preserved
loop-after-preserved c =
    rw c.push.ensures.items
    (at_next c.args.standing.jobs.now (ordered_from c.args.standing.jobs.now c.args.standing.order) c.loop-after.cuts.items c.loop-after.t c.loop-after.before
    c.advance-after.result c.cut_at.result c.loop-after.invariant c.advance-after.ensures c.cut_at.ensures c.next_time-t.result c.next_time-t.ensures
    (let w = c.advance-after.ensures.lower.within in omega arith))
