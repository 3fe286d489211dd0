use Rattle.std.proofs.Common.{◌≡◌, ℕ, ◌+◌, ◌-◌, ◌<◌, ◌≤◌, true, List, [], ◌∷◌, get_or, Err, Result, sym, refl, ap, ◌∙◌, subst, arith, rules}
use Rattle.std.proofs.lemmas.Result.{err_from_is_err_and}
use Rattle.model.specs.Sums.{sum_to}
use Rattle.model.specs.Charges.{cost}
use Rattle.model.specs.Plan.{plan}
use Rattle.model.specs.declared.job.Job.{Job}
use Rattle.model.specs.declared.segment.Segment.{Segment}
use Rattle.model.specs.declared.step.Step.{Step as Level}
use Rattle.charges.specs.Owing.{settled}
use Rattle.charges.specs.Rows.{rows_of}
use Rattle.queue.specs.Meaning.{jobs_of}
use Rattle.queue.specs.Queues.{standing}
use Rattle.refusal.specs.Refusals.{told_of}
use Rattle.refusal.specs.declared.refusal.Refusal.{Refusal}
use Rattle.book.specs.Books.{state, said_energy}
use Rattle.book.specs.Calls.{charged, charge_limit, raised}
use Rattle.book.specs.Calls.Call.{closes}
use Rattle.book.specs.Calls.Answer.{refused}
use Rattle.book.proofs.Charging.{close_open, close_wanting, able, close_limit, close_done, settled_raised, none_waits, room_for, still_within, ticks_few}
use Rattle.book.proofs.Promises.{step_at}
use Rattle.book.proofs.book.Book.close.Goals as goal

said_err : (r : Result ℕ Refusal) (y e : Refusal) → r ≡ Err y → y ≡ e → said_energy r ≡ refused (told_of e)
said_err r y e p q = ap said_energy p ∙ ap (λ (x : Refusal). refused (told_of x)) q

pub returns-then-is_some : goal.returns-then-is_some
returns-then-is_some g c =
    let p = close_open (state c.args.self.now) (g.P.Processor.steps c.args.processor.now) (g.met.P.Processor.lawful c.args.processor.now) (sym c.if-is_some.ensures) in
    record { answer = p.answers; state = p.becoming; sound = p.sounds }

pub returns-in_err-work_out : goal.returns-in_err-work_out
returns-in_err-work_out g c =
    let s = state c.args.self.now in
    let steps = g.P.Processor.steps c.args.processor.now in
    let y = err_from_is_err_and c.from_residual.result c.from_residual.ensures.1 in
    let e = c.in_err-work_out.field-0.0 in
    let p =
    step_at s s s (closes steps) (refused (told_of e)) (said_energy c.from_residual.result) refl (said_err c.from_residual.result y.0 e y.1 y.2)
    (close_wanting s steps (told_of e) (g.met.P.Processor.lawful c.args.processor.now) (sym c.if-is_some.ensures) c.in_err-work_out.ensures.answer)
    in
    record { answer = p.answers; state = p.becoming; sound = p.sounds }

-- past the limit, and within it
over : (all n e m t : ℕ) → t ≡ all → e ≡ n → n ≡ m → charge_limit - t < e → all ≤ charge_limit → charge_limit < all + m
over all n e m t p q r l w = omega arith

under : (all n e m t : ℕ) → t ≡ all → e ≡ n → n ≡ m → e ≤ charge_limit - t → all ≤ charge_limit → all + m ≤ charge_limit
under all n e m t p q r l w = omega arith

pub returns-then-energy-total : goal.returns-then-energy-total
unfolding charged
returns-then-energy-total g c =
    let b = c.args.self.now in
    let s = state b in
    let steps = g.P.Processor.steps c.args.processor.now in
    let d = c.in_ok-work_out.ensures in
    let p =
    close_limit s steps (g.met.P.Processor.lawful c.args.processor.now) (sym c.if-is_some.ensures) d.answer
    (over (sum_to 65 (λ a. get_or (rows_of b.charges) a 0)) c.work_out.new.self.drawing.energy c.energy-energy.result (cost steps s.jobs) c.total.result c.total.ensures c.energy-energy.ensures d.made.1 c.if-energy-total.true b.within)
    in
    record { answer = p.answers; state = p.becoming; sound = p.sounds }

pub settle-requires : goal.settle-requires
settle-requires g c =
    let b = c.args.self.now in
    let steps = g.P.Processor.steps c.args.processor.now in
    let d = c.in_ok-work_out.ensures in
    let j = c.jobs.ensures in
    let st : standing c.jobs.result.now ≡ true = subst (λ (xs : List Job). standing xs ≡ true) (sym j) b.queue.order in
    let e : c.segments.result.now ≡ plan steps c.jobs.result.now = c.segments.ensures ∙ (d.made.0 ∙ ap (λ (xs : List Job). plan steps xs) (sym j)) in
    let u : sum_to 65 (λ a. get_or (rows_of b.charges) a 0) + cost steps (jobs_of b.queue) ≤ charge_limit =
    under (sum_to 65 (λ a. get_or (rows_of b.charges) a 0)) c.work_out.new.self.drawing.energy c.energy-energy.result (cost steps (jobs_of b.queue)) c.total.result c.total.ensures c.energy-energy.ensures d.made.1 c.if-energy-total.false b.within
    in
    record {
      order = st;
      short = ticks_few steps c.jobs.result.now c.segments.result.now st (subst (λ (xs : List Job). Rattle.planner.specs.Planning.Worth steps xs) (sym j) d.worth) (able steps c.jobs.result.now (d.answer ∙ ap (λ (xs : List Job). Rattle.refusal.specs.Refusals.first_of (Rattle.planner.specs.Planning.want_line steps xs ∷ [])) (sym j))) e;
      room = room_for steps c.jobs.result.now c.segments.result.now (rows_of b.charges) st e (subst (λ (xs : List Job). sum_to 65 (λ a. get_or (rows_of b.charges) a 0) + cost steps xs ≤ charge_limit) (sym j) u);
    }

-- the charges that the settling left
left_by : (steps : List Level) (jobs standing-jobs : List Job) (segments : List Segment) (rows more : List ℕ) → jobs ≡ standing-jobs → segments ≡ plan steps standing-jobs → more ≡ settled steps jobs segments rows 65 → more ≡ raised steps standing-jobs rows
left_by steps jobs held segments rows more j e f =
    f ∙ (ap (λ (xs : List Job). settled steps xs segments rows 65) j ∙ settled_raised steps held segments rows e)

pub invariant_of-self-2 : goal.invariant_of-self-2
invariant_of-self-2 g c =
    let b = c.args.self.now in
    let steps = g.P.Processor.steps c.args.processor.now in
    let d = c.in_ok-work_out.ensures in
    let r = left_by steps c.jobs.result.now (jobs_of b.queue) c.segments.result.now (rows_of b.charges) (rows_of c.settle.new.charges) c.jobs.ensures (c.segments.ensures ∙ d.made.0) c.settle.ensures.all in
    let u : sum_to 65 (λ a. get_or (rows_of b.charges) a 0) + cost steps (jobs_of b.queue) ≤ charge_limit =
    under (sum_to 65 (λ a. get_or (rows_of b.charges) a 0)) c.work_out.new.self.drawing.energy c.energy-energy.result (cost steps (jobs_of b.queue)) c.total.result c.total.ensures c.energy-energy.ensures d.made.1 c.if-energy-total.false b.within
    in record { waits = none_waits _ b.held (sym c.if-is_some.ensures); within = still_within steps (jobs_of b.queue) (rows_of b.charges) (rows_of c.settle.new.charges) b.queue.order r u }

pub returns : goal.returns
unfolding charged
returns g c =
    let b = c.args.self.now in
    let s = state b in
    let steps = g.P.Processor.steps c.args.processor.now in
    let d = c.in_ok-work_out.ensures in
    let r = left_by steps c.jobs.result.now (jobs_of b.queue) c.segments.result.now (rows_of b.charges) (rows_of c.settle.new.charges) c.jobs.ensures (c.segments.ensures ∙ d.made.0) c.settle.ensures.all in
    let left =
    λ (jobs : List Job) (none : jobs ≡ []).
    close_done s steps c.energy-energy.result jobs (rows_of c.settle.new.charges) (g.met.P.Processor.lawful c.args.processor.now) (sym c.if-is_some.ensures) d.answer
    (under (sum_to 65 (λ a. get_or (rows_of b.charges) a 0)) c.work_out.new.self.drawing.energy c.energy-energy.result (cost steps s.jobs) c.total.result c.total.ensures c.energy-energy.ensures d.made.1 c.if-energy-total.false b.within)
    (c.energy-energy.ensures ∙ d.made.1) none r
    in
    record { answer = (left [] refl).answers; state = (left _ (search rules)).becoming; sound = (left _ (search rules)).sounds }
