use Rattle.std.proofs.Common.{ℕ, Result, ◌∙◌, arith}
use Rattle.refusal.specs.declared.refusal.Refusal.{Refusal}
use Rattle.record.specs.Got.{reply}
use Rattle.record.proofs.Exits.{refused_as}
use Rattle.record.proofs.Groups.{number_most}
use Rattle.record.proofs.Measured.{measured_start, measured_on, measured_lacking, measured_unjoined, measured_all}
use Rattle.record.proofs.write.measure.Goals as goal

pub overflow_add-length : goal.overflow_add-length
overflow_add-length c = omega (arith, number_most _ _ c.number_length-length.ensures)

pub loop-segment-init : goal.loop-segment-init
loop-segment-init c = measured_start c.start-tail.ensures.first c.number_length-length.ensures

pub returns-then-segment-steps : goal.returns-then-segment-steps
returns-then-segment-steps c = measured_lacking c.loop-segment.invariant _ c.if-segments-gt1024.false c.loop-segment-test.true c.if-segment-steps.true

pub returns-in_err-add : goal.returns-in_err-add
returns-in_err-add c =
    refused_as (λ (r : Result ℕ Refusal). reply r) _ c.from_residual.result c.from_residual.ensures.1
    ∙ measured_unjoined c.loop-segment.invariant _ c.if-segments-gt1024.false c.loop-segment-test.true c.if-segment-steps.false c.in_err-add.ensures.answer

pub overflow_add-length-in-loop-segment : goal.overflow_add-length-in-loop-segment
overflow_add-length-in-loop-segment c = omega (arith, number_most _ _ c.number_length.ensures, number_most _ _ c.number_length-in-loop-segment.ensures)

pub overflow_add-length-in-loop-segment-2 : goal.overflow_add-length-in-loop-segment-2
overflow_add-length-in-loop-segment-2 c = omega (arith, number_most _ _ c.number_length.ensures, number_most _ _ c.number_length-in-loop-segment.ensures)

pub loop-segment-preserved : goal.loop-segment-preserved
loop-segment-preserved c =
    measured_on c.loop-segment.invariant c.loop-segment-test.true c.if-segment-steps.false c.in_ok-add.ensures.answer c.in_ok-add.ensures.after c.number_length.ensures
    c.number_length-in-loop-segment.ensures

pub returns : goal.returns
returns c = measured_all c.loop-segment.invariant c.if-segments-gt1024.false c.loop-segment-test.false
