-- The moments at which walls count jobs.
use Rattle.std.specs.Prelude.{Bool, true, false}
use Rattle.survey.specs.declared.front.Moment.{Moment}
use Rattle.survey.specs.declared.front.Moment.TheVariants.{Arrival, Deadline}

-- whether it is the arrival
abbrev pub is_arrival : Moment → Bool
is_arrival Arrival = true
is_arrival Deadline = false
