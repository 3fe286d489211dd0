use Rattle.std.proofs.Common.{◌≡◌, [], ◌∷◌, ◌++◌, List, ℕ, length, sym, ap, ◌∙◌, subst, Option, arith}
use Rattle.std.proofs.lemmas.Bool.{eqb-true, eqb-false}
use Rattle.record.specs.Checks.{Stands}
use Rattle.record.specs.Numbers.{number_bytes}
use Rattle.record.specs.Writing.{segments_bytes}
use Rattle.record.proofs.Bodies.{no_count, too_many, no_room, to_segments, checks_err}
use Rattle.record.proofs.Sofar.{sofar_start, sofar_on, sofar_refused, sofar_all, sofar_surplus}
use Rattle.record.proofs.Ticking.{Holds, holds_none, holds_here, holds_kept, stands_end}
use Rattle.record.proofs.check.check.Goals as goal
use Rattle.record.proofs.check.check.Goals.{then-start-tick, else-start-tick}

pub returns-in_err-count : goal.returns-in_err-count
returns-in_err-count c = checks_err _ _ _ _ _ c.from_residual.result c.from_residual.ensures.1 (no_count _ _ _ _ c.in_err-count.ensures.reads)

pub returns-then-count-gt-MOST_SEGMENTS : goal.returns-then-count-gt-MOST_SEGMENTS
returns-then-count-gt-MOST_SEGMENTS c = too_many _ _ _ _ _ c.in_ok-count.ensures.reads c.if-count-gt-MOST_SEGMENTS.true

pub returns-then-count-room : goal.returns-then-count-room
returns-then-count-room c = no_room _ _ _ _ _ c.in_ok-count.ensures.reads c.if-count-gt-MOST_SEGMENTS.false c.if-count-room.true

pub loop-init : goal.loop-init
loop-init c = ([], sofar_start _ _ _ _ c.start-tail.ensures.steps c.start-tail.ensures.first, holds_none _ _ _)

pub returns-in_err-segment : goal.returns-in_err-segment
returns-in_err-segment c =
    checks_err _ _ _ _ _ c.from_residual-in_err-segment.result c.from_residual-in_err-segment.ensures.1
    (to_segments _ _ _ _ _ c.in_ok-count.ensures.reads c.if-count-gt-MOST_SEGMENTS.false c.if-count-room.false
    ∙ sofar_refused c.loop.invariant.1 c.loop-test.true c.in_err-segment.ensures.reads)

pub loop-preserved : goal.loop-preserved
loop-preserved c =
    let l = c.loop in
    let ss = l.invariant.0 in
    let s = c.in_ok-segment in
    let f = l.invariant.1 in
    let is = λ (x : ℕ). Holds c.args.steps c.args.tick (ss ++ (s.segment ∷ [])) x in (
      ss ++ (s.segment ∷ []),
      sofar_on f c.loop-test.true s.ensures.reads s.ensures.exact (record { steps = s.ensures.steps; after = s.ensures.after }),
      elim c.if-start-tick.branch [
        | then-start-tick w ↦
            subst is (sym w.step-is)
            (holds_here c.args.steps c.args.tick ss s.segment (omega (arith, s.ensures.low, f.own)) (omega (arith, w.if-start-tick.true, f.sum)))
        | else-start-tick w ↦
            subst is (sym w.step-is)
            (holds_kept c.args.steps c.args.tick ss s.segment l.step l.invariant.2 (omega (arith, w.if-start-tick.false, f.sum)))
      ],
    )

pub returns-then-not-is_empty : goal.returns-then-not-is_empty
returns-then-not-is_empty c =
    to_segments _ _ _ _ _ c.in_ok-count.ensures.reads c.if-count-gt-MOST_SEGMENTS.false c.if-count-room.false
    ∙ sofar_surplus c.loop.invariant.1 c.loop-test.false (eqb-false (length c.loop.reader.rest.now) 0 (sym c.if-not-is_empty.ensures))

pub returns : goal.returns
returns c =
    let n = c.in_ok-count in
    let ss = c.loop.invariant.0 in
    let all = sofar_all c.loop.invariant.1 c.loop-test.false (eqb-true (length c.loop.reader.rest.now) 0 (sym c.if-not-is_empty.ensures)) in
    let many : n.count ≡ length ss = omega (arith, c.loop.invariant.1.many) in (
      ss,
      record {
        reads = to_segments _ _ _ _ _ n.ensures.reads c.if-count-gt-MOST_SEGMENTS.false c.if-count-room.false ∙ all.0;
        again = all.0;
        exact =
            n.ensures.exact.1
            ∙ ap (λ (xs : List ℕ). number_bytes n.count ++ xs) all.1
            ∙ ap (λ (m : ℕ). number_bytes m ++ segments_bytes ss) many;
        count = many;
        few = c.if-count-room.false;
        step = subst (λ (o : Option ℕ). Stands c.args.steps c.args.tick ss o) (sym c.then_some.ensures) (stands_end c.args.steps c.args.tick _ _ ss c.loop.invariant.1.sum c.loop.invariant.2);
      },
    )
