use Rattle.std.proofs.Common.{◌≤◌, ◌<◌, ◌⊎◌, List, sym, ap, ◌∙◌, arith}
use Rattle.std.proofs.lemmas.Bool.Decides.{nat_tests}
use Rattle.model.specs.declared.segment.Segment.{Segment}
use Rattle.refusal.specs.Refusals.{told_of}
use Rattle.refusal.specs.declared.refusal.Refusal.{Refusal}
use Rattle.record.specs.Got.{Got}
use Rattle.record.specs.Reading.{machine_answer, numbered}
use Rattle.record.proofs.Exits.{refused_as}
use Rattle.record.proofs.Wholes.{any_ended, any_kindless, any_body, answer_found}
use Rattle.record.proofs.machine.step_at.Goals as goal

pub returns-in_err-kind-clause-answer : goal.returns-in_err-kind-clause-answer
returns-in_err-kind-clause-answer c =
    refused_as numbered _ c.from_residual.result c.from_residual.ensures.1
    ∙ ap (λ (e : Refusal). (told_of e).number) c.in_err-kind.ensures.1
    ∙ sym (ap (λ (g : Got (List Segment)). machine_answer g c.args.tick) (any_ended c.args.record.now c.in_err-kind.ensures.0))

pub returns-then-not-contains-clause-answer : goal.returns-then-not-contains-clause-answer
returns-then-not-contains-clause-answer c =
    let h : (c.in_ok-kind.kind < 1) ⊎ (127 < c.in_ok-kind.kind) = grind (arith, nat_tests) in
    sym (ap (λ (g : Got (List Segment)). machine_answer g c.args.tick) (any_kindless _ _ _ c.in_ok-kind.ensures h))

pub returns-in_err-passed-clause-answer : goal.returns-in_err-passed-clause-answer
returns-in_err-passed-clause-answer c =
    let h : (1 ≤ c.in_ok-kind.kind) × (c.in_ok-kind.kind ≤ 127) = grind (arith, nat_tests) in
    refused_as numbered _ c.from_residual-in_err-passed.result c.from_residual-in_err-passed.ensures.1
    ∙ sym (ap (λ (g : Got (List Segment)). machine_answer g c.args.tick) (any_body _ _ _ c.in_ok-kind.ensures h ∙ c.in_err-passed.ensures))

pub returns-clause-answer : goal.returns-clause-answer
returns-clause-answer c =
    let h : (1 ≤ c.in_ok-kind.kind) × (c.in_ok-kind.kind ≤ 127) = grind (arith, nat_tests) in
    let f = c.in_ok-passed.ensures in
    answer_found _ _ f.0 _ _ (any_body _ _ _ c.in_ok-kind.ensures h ∙ f.1.reads) f.1.step c.ok_or.result c.ok_or.ensures.value
