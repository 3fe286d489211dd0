use Rattle.std.proofs.Common.{◌≡◌, length}
use Rattle.grammar.proofs.Fielded.{Fielded}
use Rattle.grammar.proofs.rows.read_fields.Given as goal

-- some numbers are read
abbrev pub invariant-loop-number : goal.invariant-loop-number
invariant-loop-number g l = record {
  sized : length l.number-items ≡ g.row.N;
  fielded : Fielded l.text l.number-items l.number-index l.rest;
}
