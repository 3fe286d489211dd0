use Rattle.std.proofs.Common.{Result, None, ◌∙◌}
use Rattle.model.specs.Plan.{segment}
use Rattle.model.specs.declared.segment.Segment.{Segment}
use Rattle.refusal.specs.declared.refusal.Refusal.{Refusal}
use Rattle.record.specs.Got.{seen}
use Rattle.record.proofs.Exits.{refused_as}
use Rattle.record.proofs.Stretches.{no_step, lacking, no_ticks, joined_as, segment_there}
use Rattle.record.proofs.numbers.Reader.read_segment.Goals as goal

pub returns-in_err-step-clause-reads : goal.returns-in_err-step-clause-reads
returns-in_err-step-clause-reads c =
    refused_as (λ (r : Result Segment Refusal). seen c.read_number.new.self.rest.now r) _ c.from_residual.result c.from_residual.ensures.1
    ∙ no_step _ _ _ _ _ c.in_err-step.ensures.reads

pub returns-then-step-tail-clause-reads : goal.returns-then-step-tail-clause-reads
returns-then-step-tail-clause-reads c = lacking _ _ _ _ _ _ c.in_ok-step.ensures.reads c.if-step-tail.true

pub returns-in_err-ticks-clause-reads : goal.returns-in_err-ticks-clause-reads
returns-in_err-ticks-clause-reads c =
    refused_as (λ (r : Result Segment Refusal). seen c.read_number-2.new.self.rest.now r) _ c.from_residual-in_err-ticks.result c.from_residual-in_err-ticks.ensures.1
    ∙ no_ticks _ _ _ _ _ _ _ c.in_ok-step.ensures.reads c.if-step-tail.false c.in_err-ticks.ensures.reads

pub returns-in_err-add-clause-reads : goal.returns-in_err-add-clause-reads
unfolding segment
returns-in_err-add-clause-reads c =
    refused_as (λ (r : Result Segment Refusal). seen c.read_number-2.new.self.rest.now r) _ c.from_residual-in_err-add.result c.from_residual-in_err-add.ensures.1
    ∙ joined_as _ _ _ _ _ _ _ _ _ c.in_ok-step.ensures.reads c.if-step-tail.false c.in_ok-ticks.ensures.reads c.in_err-add.ensures.answer

pub returns-clause-reads : goal.returns-clause-reads
unfolding segment
returns-clause-reads c = joined_as _ _ _ _ _ _ _ _ None c.in_ok-step.ensures.reads c.if-step-tail.false c.in_ok-ticks.ensures.reads c.in_ok-add.ensures.answer

pub returns-clause-exact : goal.returns-clause-exact
unfolding segment
returns-clause-exact c = segment_there _ _ _ _ _ c.in_ok-step.ensures.exact.1 c.in_ok-ticks.ensures.exact.1
