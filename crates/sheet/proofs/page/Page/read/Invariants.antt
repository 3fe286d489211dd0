use Rattle.std.proofs.Common.{length}
use Rattle.sheet.proofs.Lines.{Reading}
use Rattle.sheet.proofs.page.Page.read.Given as goal

-- some lines are taken
abbrev pub invariant-loop-text : goal.invariant-loop-text
invariant-loop-text l = Reading l.sheet l.rest l.line l.self

abbrev pub decreases-loop-text : goal.decreases-loop-text
decreases-loop-text l = length l.rest
