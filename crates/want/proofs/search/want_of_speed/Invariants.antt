use Rattle.std.proofs.Common.{◌≡◌, None}
use Rattle.model.specs.Sums.{first_below}
use Rattle.model.specs.Speed.{starved}
use Rattle.want.proofs.Loads.{Left}
use Rattle.want.proofs.search.want_of_speed.Given as goal

-- the runs to j that start after the jobs that are left are passed
abbrev pub invariant-loop-first : goal.invariant-loop-first
invariant-loop-first g l = (l.found ≡ None) × Left (g.P.Processor.steps l.processor) l.standing.jobs.now l.first-iterator.iter.rest.now l.j l.load

-- no job before j ends an overfull run
abbrev pub invariant-search : goal.invariant-search
invariant-search g l = (l.found ≡ None) × (first_below l.j (starved (g.P.Processor.steps l.processor) l.standing.jobs.now) ≡ l.j)
