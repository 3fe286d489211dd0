use Rattle.std.proofs.Common.{append_assoc, arith}
use Rattle.text.proofs.Written.{wrote_on, wrote_as}
use Rattle.print.specs.Texts.{energy_text}
use Rattle.print.proofs.Lengths.{energy_length}
use Rattle.print.proofs.plan.put_energy.Goals as goal

pub returns : goal.returns
unfolding energy_text
returns c =
    let l = energy_length c.args.energy in
    let a = wrote_on c.word.ensures c.number.ensures (omega arith) in
    wrote_as (wrote_on a c.byte.ensures (omega arith)) (simp append_assoc)
