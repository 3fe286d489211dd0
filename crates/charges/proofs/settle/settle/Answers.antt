use Rattle.std.proofs.Common.{◌≡◌, ℕ, ◌+◌, get_or}
use Rattle.model.specs.Charges.{charge}
use Rattle.charges.specs.Rows.{rows_of}
use Rattle.charges.proofs.Raised.{rows_count}
use Rattle.charges.proofs.Ends.{ticks_small, room_next, all_paid, settled_is}
use Rattle.charges.proofs.settle.settle.Goals as goal

pub settle_segment-at-requires : goal.settle_segment-at-requires
settle_segment-at-requires g c =
    let steps = g.P.Processor.steps c.args.processor.now in
    let segments = c.args.segments.now in
    let l = c.loop-segment in
    record {
      order = c.requires.order;
      short = ticks_small segments l.segment-index 1008000000 c.loop-segment-test.true c.requires.short;
      near = l.invariant.0;
      room = λ a b.
          room_next steps c.args.jobs.now (rows_of c.args.charges.now) (rows_of l.charges) l.at segments l.segment-index a 4000000000000000000 c.loop-segment-test.true (l.invariant.1 a)
          (c.requires.room a b);
    }

pub returns : goal.returns
returns g c =
    let steps = g.P.Processor.steps c.args.processor.now in
    let jobs = c.args.jobs.now in
    let segments = c.args.segments.now in
    let l = c.loop-segment in
    let each : (a : ℕ) → get_or (rows_of l.charges) a 0 ≡ get_or (rows_of c.args.charges.now) a 0 + charge steps jobs segments a =
    λ a. all_paid steps jobs (rows_of c.args.charges.now) (rows_of l.charges) l.at segments l.segment-index a c.loop-segment-test.false (l.invariant.1 a)
    in
    record {
      each = each;
      all = settled_is steps jobs segments (rows_of c.args.charges.now) (rows_of l.charges) 65 (rows_count l.charges) each;
    }
