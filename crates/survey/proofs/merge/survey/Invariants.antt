use Rattle.std.proofs.Common.{◌-◌, length}
use Rattle.model.specs.Jobs.{cuts}
use Rattle.survey.proofs.Merged.{At}
use Rattle.survey.proofs.merge.survey.Given as goal

-- the cuts before t are written
abbrev pub invariant-loop-after : goal.invariant-loop-after
invariant-loop-after l = At l.standing.jobs.now l.cuts.items l.t l.before

-- as many cuts as are left
abbrev pub decreases-loop-after : goal.decreases-loop-after
decreases-loop-after l = length (cuts l.standing.jobs.now) - length l.cuts.items
