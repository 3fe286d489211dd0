use Rattle.std.proofs.Common.{ℕ, length, Result, sym, refl, ap, ◌∙◌}
use Rattle.sheet.specs.declared.fault.Fault.{Fault}
use Rattle.print.specs.Texts.{refused_text}
use Rattle.sheet.specs.Answers.{fault_told, fault_reply, printed}
use Rattle.sheet.proofs.Printed.{drawn_fits, refused_printed, line_fits, fitting_same}
use Rattle.sheet.proofs.output.print_sheet.Goals as goal

pub returns-in-Ok : goal.returns-in-Ok
returns-in-Ok c =
    let o = c.args.out.now in
    let d = c.in_ok-length.ensures in
    drawn_fits (length o) c.in-Ok.length c.args.sheet.now o c.draw.new.out refl (sym (ap (λ (x : Result ℕ Fault). fault_reply x) c.in-Ok.is) ∙ d.answer) d.buffer c.draw.auto.out

pub returns-in-Err : goal.returns-in-Err
returns-in-Err c =
    let o = c.args.out.now in
    let d = c.in_ok-length.ensures in
    let t = fault_told c.in-Err.fault in
    let p = refused_printed (length o) c.args.sheet.now o c.draw.new.out t (sym (ap (λ (x : Result ℕ Fault). fault_reply x) c.in-Err.is) ∙ d.answer) d.buffer in
    let l = c.refused_line.ensures in
    fitting_same (refused_text t) (printed (length o) c.args.sheet.now) o c.draw.new.out c.refused_line.new.out c.refused_line.result p.0 p.1
    (line_fits (refused_text t) c.draw.new.out c.refused_line.new.out c.refused_line.result l.answer l.figure l.buffer)
