use Rattle.std.proofs.Common.{ℕ, ◌+◌, List, ◌++◌, length, drop, ap, ◌∙◌, arith}
use Rattle.std.proofs.lemmas.List.{take_rest}
use Rattle.record.specs.Numbers.{number_bytes}
use Rattle.frame.proofs.Laid.{laid_part}
use Rattle.record.proofs.numbers.put_number.Goals as goal

pub returns : goal.returns
returns c =
    let f = c.args.frame.now in
    let bytes = number_bytes c.args.n in
    record {
      place = ap (λ (x : ℕ). c.args.at + x) c.write_number.ensures.count;
      bytes =
          laid_part c.args.at bytes f c.write_number.new.out (omega (arith, c.requires))
          (c.write_number.ensures.bytes ∙ ap (λ (xs : List ℕ). bytes ++ drop (length bytes) xs) (take_rest f c.args.at));
    }
