-- Making a ladder: which steps two arrays and a count name, and when they are refused.
use Rattle.std.specs.Prelude.{ℕ, ◌-◌, ◌*◌, ◌%◌, Bool, cond, not, ◌&&◌, ◌||◌, List, [], ◌∷◌, length, take, Some, None, Option, ◌==◌, nat_le, nat_lt}
use Rattle.model.specs.Sums.{first_below}
use Rattle.model.specs.Steps.{unit, speed_at, power_at, gap, climb}
use Rattle.model.specs.declared.step.Step.{Step}
use Rattle.refusal.specs.Refusals.{Told, Line, line, first_of}
use Rattle.processor.specs.declared.rule.Rule.{Rule}
use Rattle.processor.specs.declared.rule.Rule.TheVariants.{Speeds, Powers, Gaps, Bends}

-- whether a processor may not have so many steps
abbrev pub bad_count : ℕ → Bool
bad_count n = not (nat_le 2 n && nat_le n 16)

abbrev pub count_line : ℕ → Line
count_line n = line (bad_count n) 1 0

-- whether step i is at odds with those before it
unfoldable pub odd_at : Rule → List Step → ℕ → Bool
odd_at Speeds s i = nat_lt 4000 (speed_at s i) || cond (i == 0) (nat_lt 0 (speed_at s i)) (nat_le (speed_at s i) (speed_at s (i - 1)))
odd_at Powers s i = nat_lt 1000000 (power_at s i) || (nat_lt 0 i && nat_lt (power_at s i) (power_at s (i - 1)))
odd_at Gaps s i = nat_lt 0 i && not (unit % gap s (i - 1) == 0)
odd_at Bends s i = nat_lt 1 i && nat_lt (climb s (i - 1) * gap s (i - 2)) (climb s (i - 2) * gap s (i - 1))

-- whether the last step is at odds with those before it
abbrev pub odd_last : Rule → List Step → Bool
odd_last r s = odd_at r s (length s - 1)

-- the number that a broken rule is refused with
abbrev pub rule_number : Rule → ℕ
rule_number Speeds = 2
rule_number Powers = 3
rule_number Gaps = 4
rule_number Bends = 5

-- the first step at odds with a rule, or the number of steps
unfoldable pub first_odd : Rule → List Step → ℕ
first_odd r s = first_below (length s) (odd_at r s)

-- the first step at odds with a rule, where there is one
unfoldable pub odd_step : Rule → List Step → Option ℕ
odd_step r s = cond (nat_lt (first_odd r s) (length s)) (Some (first_odd r s)) None

-- a rule is broken by the first step at odds
unfoldable pub rule_line : Rule → List Step → Line
rule_line r s = line (nat_lt (first_odd r s) (length s)) (rule_number r) (first_odd r s)

-- rule by rule, each over all steps
abbrev pub rule_lines : List Step → List Line
rule_lines s = rule_line Speeds s ∷ (rule_line Powers s ∷ (rule_line Gaps s ∷ (rule_line Bends s ∷ [])))

-- the table of a list of steps
abbrev pub step_lines : List Step → ℕ → List Line
step_lines s count = count_line count ∷ rule_lines s

-- a speed and a power at each place
abbrev pub paired : List ℕ → List ℕ → List Step
paired [] ps = []
paired (v ∷ vs) [] = []
paired (v ∷ vs) (p ∷ ps) = record { speed = v; power = p } ∷ paired vs ps

-- the steps that the arrays name: their first `count` places
abbrev pub listed : List ℕ → List ℕ → ℕ → List Step
listed speeds powers count = take count (paired speeds powers)

-- how the making of a ladder is refused, or that it is not
abbrev pub ladder_refusal : List ℕ → List ℕ → ℕ → Option Told
ladder_refusal speeds powers count = first_of (step_lines (listed speeds powers count) count)
