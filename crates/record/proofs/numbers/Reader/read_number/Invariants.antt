use Rattle.record.proofs.Halfway.{Halfway}
use Rattle.record.proofs.numbers.Reader.read_number.Given as goal

-- k bytes with their top bit are read
abbrev pub invariant-loop-k : goal.invariant-loop-k
invariant-loop-k l = Halfway l.fn.self.rest.now l.self.rest.now l.k l.n l.scale
