use Rattle.std.proofs.Common.{◌≡◌, drop}
use Rattle.processor.specs.Rules.{rule_lines}
use Rattle.processor.proofs.Tables.{table}
use Rattle.refusal.specs.Refusals.{first_of}
use Rattle.processor.proofs.check.check.Given as goal

-- the table gives what the rules left give
abbrev pub invariant-loop-rule : goal.invariant-loop-rule
invariant-loop-rule l = first_of (rule_lines l.steps) ≡ first_of (table (drop l.rule-index l.rule-items) l.steps)
