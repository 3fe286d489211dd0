use Rattle.std.proofs.Common.{Some, ap, ◌∙◌}
use Rattle.std.proofs.lemmas.Result.{err_from_is_err_and}
use Rattle.sheet.specs.Answers.{fault_told}
use Rattle.sheet.specs.declared.fault.Fault.{Fault}
use Rattle.sheet.proofs.Lines.{line_stops, line_goes, at_end, all_said}
use Rattle.sheet.proofs.page.Page.read.Goals as goal

pub returns-in_err-take_line-clause-refused : goal.returns-in_err-take_line-clause-refused
returns-in_err-take_line-clause-refused c =
    let l = c.loop-text in
    let y = err_from_is_err_and c.from_residual.result c.from_residual.ensures.1 in
    let t = line_stops c.args.sheet.now l.rest.now c.in-Some.text.now c.in-Some.after.now l.line l.self _ l.invariant c.in-Some.ensures.lines c.in_err-take_line.ensures.answer in
    rw y.1 (ap (λ (e : Fault). Some (fault_told e)) y.2 ∙ t)

pub loop-text-preserved : goal.loop-text-preserved
loop-text-preserved c =
    let l = c.loop-text in
    let i = c.in-Some.ensures in
    let k = c.in_ok-take_line.ensures in
    line_goes c.args.sheet.now l.rest.now c.in-Some.text.now c.in-Some.after.now l.line l.self c.take_line.new.self l.invariant i.lines i.shorter k.answer k.after

pub returns : goal.returns
returns c =
    let l = c.loop-text in
    let n = c.in_default.ensures.lines in
    record {
      refused = tt;
      answer = at_end c.args.sheet.now l.rest.now l.line l.self l.invariant n;
      after = λ z. all_said c.args.sheet.now l.rest.now l.line l.self l.invariant n z;
    }
