use Rattle.std.proofs.Common.{ℕ, List, length, Ok, Err, Result, sym, ap, ◌∙◌}
use Rattle.model.specs.declared.segment.Segment.{Segment}
use Rattle.refusal.specs.Refusals.{told_of}
use Rattle.refusal.specs.declared.refusal.Refusal.{Refusal}
use Rattle.std.proofs.lemmas.Result.{IfOk-from_err}
use Rattle.record.specs.Got.{counted, reply}
use Rattle.record.specs.Writing.{record_bytes}
use Rattle.record.proofs.Exits.{refused_as}
use Rattle.record.proofs.Wholes.{record_ended, other_kind, same_kind, exactly, found_again, found_first, found_filled, refused_count, refused_fill}
use Rattle.record.proofs.read.read.Goals as goal

pub returns-in_err-kind : goal.returns-in_err-kind
returns-in_err-kind g c =
    let h = c.in_err-kind.ensures in
    let e = record_ended g.P.Processor.bears (length (g.P.Processor.steps c.args.processor.now)) (length c.args.buffer.now) _ (sym c.at-reader.ensures ∙ h.0) in
    record {
      answer =
          refused_as (λ (r : Result ℕ Refusal). reply r) _ c.from_residual.result c.from_residual.ensures.1
          ∙ ap (λ (x : Refusal). Err (told_of x)) h.1
          ∙ refused_count e;
      after = refused_fill e;
      exact = IfOk-from_err c.from_residual.result _ c.from_residual.ensures.0;
    }

pub returns-then-kind-kind_number : goal.returns-then-kind-kind_number
returns-then-kind-kind_number g c =
    let e =
    other_kind g.P.Processor.bears (length (g.P.Processor.steps c.args.processor.now)) (length c.args.buffer.now) _ _ _ (sym c.at-reader.ensures ∙ c.in_ok-kind.ensures)
    (λ q. c.if-kind-kind_number.true (q ∙ sym c.kind_number.ensures))
    in
    record { answer = refused_count e; after = refused_fill e; exact = tt }

pub returns-in_err-passed : goal.returns-in_err-passed
returns-in_err-passed g c =
    let e =
    same_kind g.P.Processor.bears _ _ (length c.args.buffer.now) _ _ _ (sym c.at-reader.ensures ∙ c.in_ok-kind.ensures) (c.if-kind-kind_number.false ∙ c.kind_number.ensures) c.count-steps.ensures
    ∙ c.in_err-passed.ensures
    in
    record {
      answer = refused_as (λ (r : Result ℕ Refusal). reply r) _ c.from_residual-in_err-passed.result c.from_residual-in_err-passed.ensures.1 ∙ refused_count e;
      after = refused_fill e;
      exact = IfOk-from_err c.from_residual-in_err-passed.result _ c.from_residual-in_err-passed.ensures.0;
    }

pub returns : goal.returns
returns g c =
    let b = sym c.at-reader.ensures ∙ c.in_ok-kind.ensures in
    let k = c.if-kind-kind_number.false ∙ c.kind_number.ensures in
    let f = c.in_ok-passed.ensures in
    let p = c.in_ok-passed.passed in
    let e = same_kind g.P.Processor.bears _ _ (length c.args.buffer.now) _ _ _ b k c.count-steps.ensures ∙ f.1.reads in
    let h = found_again p.count _ p.segments.now c.args.buffer.now c.fill.new.part f.0 f.1.few c.fill.ensures f.1.again in
    record {
      answer = ap (λ (n : ℕ). Ok n) f.1.count ∙ sym (ap counted e);
      after = found_filled p.count f.0 c.fill.new.part c.args.buffer.now e f.1.count h;
      exact =
          exactly _ _ _ _ f.0 b k f.1.exact
          ∙ ap (λ (ss : List Segment). record_bytes g.P.Processor.bears ss) (sym (found_first p.count f.0 c.fill.new.part c.args.buffer.now f.1.count h));
    }
