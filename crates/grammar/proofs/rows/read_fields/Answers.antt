use Rattle.std.proofs.Common.{sym, ◌∙◌, length-set, arith}
use Rattle.std.proofs.lemmas.List.{length-replicate}
use Rattle.grammar.proofs.Fielded.{none_read, one_read, spaced, no_space, no_number, fields_end}
use Rattle.grammar.proofs.rows.read_fields.Goals as goal

pub loop-number-init : goal.loop-number-init
loop-number-init g c = record { sized = length-replicate g.row.N 0; fielded = none_read _ _ }

pub returns-in_err-strip_prefix : goal.returns-in_err-strip_prefix
returns-in_err-strip_prefix g c =
    let l = c.loop-number in
    let i = l.invariant in
    rw c.from_residual.ensures
    (λ ms n s e. no_space c.args.text.now l.number-items ms l.number-index l.rest.now i.fielded (omega (arith, i.sized)) c.in_err-strip_prefix.ensures.cases (n ∙ sym i.sized) s e)

pub returns-in_err-value : goal.returns-in_err-value
returns-in_err-value g c =
    let l = c.loop-number in
    let i = l.invariant in
    let p = c.in_ok-strip_prefix.ensures.cases in
    rw c.from_residual-in_err-value.ensures
    (λ ms n s e.
    no_number c.args.text.now l.number-items ms l.number-index l.rest.now c.in_ok-strip_prefix.field-0.now i.fielded (omega (arith, i.sized)) (spaced _ _ p.0 p.1) c.in_err-value.ensures (n ∙ sym i.sized) s e)

pub loop-number-preserved : goal.loop-number-preserved
loop-number-preserved g c =
    let l = c.loop-number in
    let i = l.invariant in
    let p = c.in_ok-strip_prefix.ensures.cases in
    record {
      sized = length-set l.number-items l.number-index c.in_ok-value.value ∙ i.sized;
      fielded =
          one_read c.args.text.now l.number-items l.number-index c.in_ok-value.value l.rest.now c.in_ok-strip_prefix.field-0.now c.in_ok-value.after.now i.fielded (omega (arith, i.sized)) (spaced _ _ p.0 p.1)
          c.in_ok-value.ensures;
    }

pub returns : goal.returns
returns g c =
    let l = c.loop-number in
    let i = l.invariant in
    rw c.then_some.ensures (fields_end g.row.N c.args.text.now l.number-items l.number-index l.rest.now c.is_empty.result i.fielded (omega (arith, i.sized)) i.sized c.is_empty.ensures)
