use Rattle.std.proofs.Common.{◌≡◌, ℕ, ◌-◌, List, [], ◌∷◌, IfOk, Err, Result, sym, refl, ap, ◌∙◌, subst, arith}
use Rattle.std.proofs.lemmas.Result.{err_from_is_err_and}
use Rattle.model.specs.Charges.{cost}
use Rattle.model.specs.declared.step.Step.{Step as Level}
use Rattle.planner.specs.Planning.{want_line}
use Rattle.refusal.specs.Refusals.{told_of, first_of}
use Rattle.refusal.specs.declared.refusal.Refusal.{Refusal}
use Rattle.book.specs.Books.{state, said_price}
use Rattle.book.specs.Calls.{State, with_job, holding}
use Rattle.book.specs.Calls.Call.{holds}
use Rattle.book.specs.Calls.Answer.{refused}
use Rattle.book.specs.declared.slip.Slip.{Slip}
use Rattle.book.proofs.Pricing.{hold_open, hold_stopped, hold_able, hold_cheap, hold_taken}
use Rattle.book.proofs.Promises.{step_at}
use Rattle.book.proofs.book.Book.hold.Goals as goal

said_err : (r : Result Slip Refusal) (y e : Refusal) → r ≡ Err y → y ≡ e → said_price r ≡ refused (told_of e)
said_err r y e p q = ap said_price p ∙ ap (λ (x : Refusal). refused (told_of x)) q

unopened : (r : Result Slip Refusal) (y : Refusal) → r ≡ Err y → (P : Slip → Type 0) → IfOk r P
unopened r y e P = subst (λ (x : Result Slip Refusal). IfOk x P) (sym e) tt

-- the costs, from the book as it was lent on
cost_same : (steps : List Level) (s t : State) (n : ℕ) → t ≡ s → n ≡ cost steps t.jobs → n ≡ cost steps s.jobs
cost_same steps s t n e f = f ∙ ap (λ (x : State). cost steps x.jobs) e

pub returns-then-is_some : goal.returns-then-is_some
returns-then-is_some g c =
    let p = hold_open (state c.args.self.now) c.args.job (g.P.Processor.steps c.args.processor.now) (g.met.P.Processor.lawful c.args.processor.now) (sym c.if-is_some.ensures) in
    record { answer = p.answers; state = p.becoming; opens = tt; sound = p.sounds }

pub returns-in_err-with : goal.returns-in_err-with
returns-in_err-with g c =
    let s = state c.args.self.now in
    let steps = g.P.Processor.steps c.args.processor.now in
    let y = err_from_is_err_and c.from_residual.result c.from_residual.ensures.1 in
    let e = c.in_err-with.field-0.0 in
    let p =
    step_at s s (state c.energy_with.new.self) (holds c.args.job steps) (refused (told_of e)) (said_price c.from_residual.result) c.energy_with.ensures.same
    (said_err c.from_residual.result y.0 e y.1 y.2)
    (hold_stopped s c.args.job steps (told_of e) (g.met.P.Processor.lawful c.args.processor.now) (sym c.if-is_some.ensures) c.in_err-with.ensures.answer)
    in
    record { answer = p.answers; state = p.becoming; opens = unopened c.from_residual.result y.0 y.1 _; sound = p.sounds }

pub returns-in_err-without : goal.returns-in_err-without
returns-in_err-without g c =
    let s = state c.args.self.now in
    let steps = g.P.Processor.steps c.args.processor.now in
    absurd
    (hold_able s c.args.job steps c.in_ok-with.ensures.answer (told_of c.in_err-without.field-0.0)
    (c.in_err-without.ensures.answer ∙ ap (λ (x : State). first_of (want_line steps x.jobs ∷ [])) c.energy_with.ensures.same))

pub returns-then-with-without : goal.returns-then-with-without
returns-then-with-without g c =
    let s = state c.args.self.now in
    let steps = g.P.Processor.steps c.args.processor.now in
    let w : c.in_ok-with.with ≡ cost steps (with_job s.jobs c.args.job) = c.in_ok-with.ensures.figure in
    let o : c.in_ok-without.without ≡ cost steps s.jobs = cost_same steps s (state c.energy_with.new.self) _ c.energy_with.ensures.same c.in_ok-without.ensures.figure in
    let p =
    step_at s s (state c.energy_with.new.self) (holds c.args.job steps) _ _ c.energy_with.ensures.same refl
    (hold_cheap s c.args.job steps c.in_ok-with.ensures.answer (g.met.P.Processor.lawful c.args.processor.now) (sym c.if-is_some.ensures) (omega (arith, w, o, c.if-with-without.true)))
    in
    record { answer = p.answers; state = p.becoming; opens = tt; sound = p.sounds }

pub returns : goal.returns
returns g c =
    let s = state c.args.self.now in
    let steps = g.P.Processor.steps c.args.processor.now in
    let w : c.in_ok-with.with ≡ cost steps (with_job s.jobs c.args.job) = c.in_ok-with.ensures.figure in
    let o : c.in_ok-without.without ≡ cost steps s.jobs = cost_same steps s (state c.energy_with.new.self) _ c.energy_with.ensures.same c.in_ok-without.ensures.figure in
    let p =
    step_at s (holding s c.args.job) (holding (state c.energy_with.new.self) c.args.job) (holds c.args.job steps) _ _ (ap (λ (x : State). holding x c.args.job) c.energy_with.ensures.same) refl
    (hold_taken s c.args.job steps c.in_ok-with.ensures.answer (c.in_ok-with.with - c.in_ok-without.without) (g.met.P.Processor.lawful c.args.processor.now) (sym c.if-is_some.ensures)
    (omega (arith, w, o, c.if-with-without.false)) (omega (arith, w, o)))
    in
    record { answer = p.answers; state = p.becoming; opens = (refl, refl); sound = p.sounds }
