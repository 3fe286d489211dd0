use Rattle.std.proofs.Common.{refl}
use Rattle.model.specs.Sums.{first_below}
use Rattle.model.specs.Steps.{speed_at, power_at, gap, climb}
use Rattle.processor.specs.Rules.{odd_at, first_odd, rule_line}
use Rattle.processor.proofs.ladder.Ladder.smallest.Goals as goal

-- the checker tries the rules on the two steps
pub invariant_of-result : goal.invariant_of-result
unfolding first_below speed_at power_at gap climb odd_at first_odd rule_line
invariant_of-result c = record { full = refl; lawful = refl }
