use Rattle.std.proofs.Common.{◌+◌, ap, ◌∙◌, ℕ, length-set, arith}
use Rattle.text.proofs.Spelled.{digit_by, all_written}
use Rattle.text.proofs.pen.Pen.number.Goals as goal

pub loop-place-preserved : goal.loop-place-preserved
loop-place-preserved c =
    let l = c.loop-place in
    let p = c.args.self.now in
    record {
      same = l.invariant.same;
      size = length-set l.self.out.now _ _ ∙ l.invariant.size;
      at = l.invariant.at;
      spelled = digit_by p.out.now l.self.out.now p.at c.args.n l.place l.rest l.invariant.spelled c.requires (omega arith);
    }

pub returns : goal.returns
returns c =
    let l = c.loop-place in
    let p = c.args.self.now in
    record {
      same = l.invariant.same;
      size = l.invariant.size;
      place = ap (λ (x : ℕ). p.at + x) c.number_length.ensures;
      buffer = all_written p.out.now l.self.out.now p.at c.args.n l.place l.rest l.invariant.spelled (omega arith);
    }
