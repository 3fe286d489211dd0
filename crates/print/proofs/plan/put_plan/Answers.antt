use Rattle.std.proofs.Common.{length, ap, ◌∙◌, arith, rules}
use Rattle.std.proofs.lemmas.List.{length-append}
use Rattle.text.proofs.Written.{wrote_on, wrote_first}
use Rattle.print.specs.Texts.{segments_text, energy_text}
use Rattle.print.proofs.plan.put_plan.Goals as goal

pub returns : goal.returns
returns c =
    let l = length-append (segments_text c.args.segments.now) (energy_text c.args.energy) in
    let n = ap length c.new-pen.ensures.buffer in
    let w = wrote_on c.put_segments.ensures c.put_energy.ensures (omega arith) in
    let f = wrote_first c.args.out.now w c.new-pen.ensures.start c.new-pen.ensures.buffer in
    record { place = f.0; bytes = (search rules) ∙ f.1 }
