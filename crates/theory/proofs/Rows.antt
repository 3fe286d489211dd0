-- The worked rows hold: the checker computes each.
use Rattle.std.proofs.Common.{refl}
use Rattle.model.specs.Sums.{sum_to, all_below, any_below, first_below, sum_of, some_of}
use Rattle.model.specs.Steps.{speed_at, power_at, gap, climb, top_speed}
use Rattle.model.specs.Jobs.{job_at, total, span, ceiling, floor, arrives, due, insert, cuts}
use Rattle.model.specs.Path.{finish, run, rise, height_on, inside, straight, flatter, turns, keeps_from, keeps, choices, first_keeping, between, path, piece_from, piece_at}
use Rattle.model.specs.Plan.{slow_step, done_at, ticks_between, fast_ticks, segment, stretch, stretches, attach, joined, plan, ticks_of, energy}
use Rattle.model.specs.Speed.{load, overfull, starved, wanting, want}
use Rattle.model.specs.Charges.{owner, payer, pays, charge_from, charge, cost, price}
use Rattle.theory.specs.Rows.{outcome, AllHold, rows, AllBend, bends}

pub rows_hold : AllHold rows
unfolding sum_to all_below any_below first_below sum_of some_of speed_at power_at gap climb top_speed job_at total span ceiling floor arrives due insert cuts finish run rise height_on inside straight flatter turns keeps_from keeps choices first_keeping between path piece_from piece_at slow_step done_at ticks_between fast_ticks segment stretch stretches attach joined plan ticks_of energy load overfull starved wanting want owner payer pays charge_from charge cost price outcome
rows_hold =
    (record { comes = refl; priced = refl }, (record { comes = refl; priced = refl }, (record { comes = refl; priced = refl }, (record { comes = refl; priced = refl }, (record { comes = refl; priced = refl }, (record { comes = refl; priced = refl }, (record { comes = refl; priced = refl }, (record { comes = refl; priced = refl }, tt))))))))

pub paths_bend : AllBend bends
unfolding all_below sum_of some_of total span ceiling floor arrives due insert cuts finish run rise height_on inside straight flatter turns keeps_from keeps choices first_keeping between path
paths_bend = (refl, (refl, tt))
