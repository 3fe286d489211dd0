use Rattle.record.proofs.Groups.{Grouped}
use Rattle.record.proofs.numbers.write_number.Given as goal

-- so many groups are written, and those of the rest are to come
abbrev pub invariant-loop-slot : goal.invariant-loop-slot
invariant-loop-slot l = Grouped l.n l.slot-index l.rest l.slot-items
