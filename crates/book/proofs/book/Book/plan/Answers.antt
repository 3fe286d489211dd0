use Rattle.std.proofs.Common.{◌≡◌, cond, List, is_ok, Ok, Err, Result, sym, refl, ◌∙◌}
use Rattle.model.specs.declared.segment.Segment.{Segment}
use Rattle.planner.specs.declared.plan.Planned.{Planned}
use Rattle.refusal.specs.declared.refusal.Refusal.{Refusal}
use Rattle.book.specs.Books.{state, kept_buffer}
use Rattle.book.proofs.Entering.{plan_open, plan_made}
use Rattle.book.proofs.book.Book.plan.Goals as goal

kept : (r : Result Planned Refusal) (entry exit full : List Segment) → exit ≡ cond (is_ok r) full entry → kept_buffer r entry exit
kept (Ok p) entry exit full e = tt
kept (Err w) entry exit full e = e

pub returns-then-is_some : goal.returns-then-is_some
returns-then-is_some g c =
    let p = plan_open (state c.args.self.now) (g.P.Processor.steps c.args.processor.now) c.args.buffer.now (g.met.P.Processor.lawful c.args.processor.now) (sym c.is_some.ensures ∙ c.if-is_some.true) in
    record { answer = p.answers; buffer = refl; sound = p.sounds }

pub returns : goal.returns
returns g c =
    let e = c.plan.ensures in
    let p =
    plan_made (state c.args.self.now) (g.P.Processor.steps c.args.processor.now) c.args.buffer.now c.plan.new.buffer c.plan.result (g.met.P.Processor.lawful c.args.processor.now)
    (sym c.is_some.ensures ∙ c.if-is_some.false) e.answer e.figures e.buffer
    in
    record { answer = p.answers; buffer = kept c.plan.result _ _ _ e.buffer; sound = p.sounds }
