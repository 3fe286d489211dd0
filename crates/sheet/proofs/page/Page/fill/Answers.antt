use Rattle.std.proofs.Common.{length, sym, ap, ◌∙◌, arith}
use Rattle.sheet.specs.Answers.{drawn_text}
use Rattle.sheet.proofs.Filled.{text_drawn, text_short, answer_none, filled_none}
use Rattle.sheet.proofs.page.Page.fill.Goals as goal

pub put_plan-requires : goal.put_plan-requires
put_plan-requires c =
    let d = c.in_ok-drawing.ensures in
    let t = ap length (text_drawn c.read.new.self c.args.sheet.now _ _ d.plan d.energy (c.in_ok-left.ensures.after d.none)) in
    let f = text_short c.args.sheet.now (sym c.in_ok-left.ensures.answer ∙ sym d.answer) in
    omega (arith, c.requires.room, t, f)

pub returns : goal.returns
returns c =
    let d = c.in_ok-drawing.ensures in
    let t = text_drawn c.read.new.self c.args.sheet.now _ _ d.plan d.energy (c.in_ok-left.ensures.after d.none) in
    let n = d.answer ∙ c.in_ok-left.ensures.answer in
    record {
      answer = answer_none _ c.put_plan.result (drawn_text c.args.sheet.now) n (c.put_plan.ensures.place ∙ ap length t);
      buffer = filled_none _ (drawn_text c.args.sheet.now) _ c.args.out.now c.put_plan.new.out n t c.put_plan.ensures.bytes;
    }
