use Rattle.std.proofs.Common.{[], List, sym, ap, ◌∙◌, arith}
use Rattle.model.specs.declared.segment.Segment.{Segment}
use Rattle.std.proofs.lemmas.List.{take_more_set, take_all}
use Rattle.record.specs.Got.{got}
use Rattle.record.proofs.Sofar.{sofar_start, sofar_on, sofar_as, sofar_refused, sound_next, sound_all}
use Rattle.record.proofs.check.fill.Goals as goal

pub loop-slot-init : goal.loop-slot-init
loop-slot-init c = sofar_start _ _ _ _ c.start-tail.ensures.steps c.start-tail.ensures.first

pub unreachable-requires : goal.unreachable-requires
unreachable-requires c = sound_next c.requires (sofar_refused c.loop-slot.invariant c.loop-slot-test.true c.in_default.ensures.reads)

pub loop-slot-preserved : goal.loop-slot-preserved
loop-slot-preserved c =
    let r = c.in-Ok.ensures in
    sofar_as (sofar_on c.loop-slot.invariant c.loop-slot-test.true r.reads r.exact (record { steps = r.steps; after = r.after }))
    (sym (take_more_set c.loop-slot.part c.loop-slot.slot-index c.in-Ok.segment (omega arith)))

pub returns : goal.returns
returns c =
    sound_all c.loop-slot.invariant c.loop-slot-test.false c.requires
    ∙ ap (λ (ss : List Segment). got ss []) (take_all c.loop-slot.slot-index c.loop-slot.part (omega arith))
