-- Close, by its outcomes, and what the settling of its plan needs.
use Rattle.std.proofs.Common.{◌≡◌, ℕ, suc, ◌+◌, ◌*◌, ◌<◌, ◌≤◌, true, false, List, [], ◌∷◌, get_or, is_some, Some, None, Option, sym, refl, ap, ◌∙◌, mul-le-mul_right, arith}
use Rattle.std.proofs.lemmas.Bool.{true≢false, lt-ltb, le-ltb}
use Rattle.model.specs.Sums.{sum_to}
use Rattle.model.specs.Steps.{Lawful, unit}
use Rattle.model.specs.Jobs.{span}
use Rattle.model.specs.Plan.{plan, ticks_of}
use Rattle.model.specs.Speed.{want}
use Rattle.model.specs.Charges.{charge, cost}
use Rattle.model.proofs.Sums.{sum_to_longer, sum_to_suc}
use Rattle.model.specs.declared.job.Job.{Job}
use Rattle.model.specs.declared.segment.Segment.{Segment}
use Rattle.model.specs.declared.step.Step.{Step as Level}
use Rattle.charges.specs.Owing.{settled}
use Rattle.planner.specs.Planning.{Worth, want_line}
use Rattle.queue.specs.Queues.{standing}
use Rattle.queue.proofs.Bounds.{span_limit}
use Rattle.refusal.specs.Refusals.{Told, told, first_of}
use Rattle.refusal.proofs.Lines.{first_hit, first_pass}
use Rattle.book.specs.Calls.{State, charged, charge_limit, open_line, limit_line, raised, lines, accepts, becomes}
use Rattle.book.specs.Calls.Call.{closes}
use Rattle.book.specs.Calls.Answer.{refused, closed}
use Rattle.book.specs.Waits.{may_wait}
use Rattle.book.proofs.Keeping.{clear_first}
use Rattle.book.proofs.Totals.{raised_at, charged_close}
use Rattle.book.proofs.Promises.{Step, refused_step, accepted_step, hit_longer, not_held}

pub close_open : (s : State) (steps : List Level) → Lawful steps → is_some s.held ≡ true → Step s s (closes steps) (refused (told 8 0))
unfolding lines
close_open s steps k h = refused_step s (closes steps) (told 8 0) k (first_hit (open_line s) (want_line steps s.jobs ∷ (limit_line s steps ∷ [])) h)

pub close_wanting : (s : State) (steps : List Level) (t : Told) → Lawful steps → is_some s.held ≡ false → Some t ≡ first_of (want_line steps s.jobs ∷ []) → Step s s (closes steps) (refused t)
unfolding lines
close_wanting s steps t k h e =
    refused_step s (closes steps) t k
    (first_pass (open_line s) (want_line steps s.jobs ∷ (limit_line s steps ∷ [])) h ∙ hit_longer [] (want_line steps s.jobs) (limit_line s steps ∷ []) t (sym e))

-- speed is not wanting
pub able : (steps : List Level) (jobs : List Job) → None ≡ first_of (want_line steps jobs ∷ []) → want steps jobs ≡ false
able steps jobs e = (clear_first (want_line steps jobs) [] (sym e)).0

to_limit : (s : State) (steps : List Level) → is_some s.held ≡ false → None ≡ first_of (want_line steps s.jobs ∷ []) → first_of (open_line s ∷ (want_line steps s.jobs ∷ (limit_line s steps ∷ []))) ≡ first_of (limit_line s steps ∷ [])
to_limit s steps h e =
    first_pass (open_line s) (want_line steps s.jobs ∷ (limit_line s steps ∷ [])) h
    ∙ first_pass (want_line steps s.jobs) (limit_line s steps ∷ []) (able steps s.jobs e)

pub close_limit : (s : State) (steps : List Level) → Lawful steps → is_some s.held ≡ false → None ≡ first_of (want_line steps s.jobs ∷ []) → charge_limit < charged s + cost steps s.jobs → Step s s (closes steps) (refused (told 19 0))
unfolding lines
close_limit s steps k h e l = refused_step s (closes steps) (told 19 0) k (to_limit s steps h e ∙ first_hit (limit_line s steps) [] (lt-ltb _ _ l))

pub close_done :
    (s : State) (steps : List Level) (n : ℕ) (js : List Job) (rows : List ℕ) → Lawful steps → is_some s.held ≡ false → None ≡ first_of (want_line steps s.jobs ∷ [])
    → charged s + cost steps s.jobs ≤ charge_limit → n ≡ cost steps s.jobs → js ≡ [] → rows ≡ raised steps s.jobs s.charges
    → Step s (record { number = s.number; jobs = js; held = s.held; charges = rows }) (closes steps) (closed n)
unfolding lines becomes accepts
close_done s steps n js rows k h e l f g r =
    accepted_step s (record { number = s.number; jobs = js; held = s.held; charges = rows }) (closes steps) (closed n) k (to_limit s steps h e ∙ first_pass (limit_line s steps) [] (le-ltb _ _ l))
    (ap (λ (w : List Job). record { number = s.number; jobs = w; held = s.held; charges = rows }) g
    ∙ (ap (λ (o : Option Job). record { number = s.number; jobs = []; held = o; charges = rows }) (not_held s.held h)
    ∙ ap (λ (w : List ℕ). record { number = s.number; jobs = []; held = None; charges = w }) r))
    (ap closed f)

-- what was settled is what a close leaves
pub settled_raised : (steps : List Level) (jobs : List Job) (segments : List Segment) (rows : List ℕ) → segments ≡ plan steps jobs → settled steps jobs segments rows 65 ≡ raised steps jobs rows
unfolding raised
settled_raised steps jobs segments rows e = ap (λ (w : List Segment). settled steps jobs w rows 65) e

-- no job waits where no hold is open
pub none_waits : (jobs : List Job) (o : Option Job) → is_some o ≡ false → may_wait jobs o ≡ true
none_waits jobs None e = refl
none_waits jobs (Some j) e = absurd (true≢false e)

-- a term of a sum
term_le : (n : ℕ) (f : ℕ → ℕ) (a : ℕ) → a < n → f a ≤ sum_to n f
term_le n f a l = let b = sum_to_longer (suc a) n f l in let c = sum_to_suc a f in omega arith

-- each account's charge stays within the limit
pub room_for :
    (steps : List Level) (jobs : List Job) (segments : List Segment) (rows : List ℕ) → standing jobs ≡ true → segments ≡ plan steps jobs → sum_to 65 (λ a. get_or rows a 0) + cost steps jobs ≤ charge_limit
    → (a : ℕ) → a < 65 → get_or rows a 0 + charge steps jobs segments a ≤ charge_limit
room_for steps jobs segments rows st e l a m =
    let r = raised_at steps jobs rows a m in
    let c = charged_close steps jobs rows st in
    let t = term_le 65 (λ b. get_or (raised steps jobs rows) b 0) a m in
    let p = ap (λ (w : List Segment). charge steps jobs w a) e in
    omega (arith, l, r, c, t, p)

-- all charges together stay within it
pub still_within : (steps : List Level) (jobs : List Job) (rows more : List ℕ) → standing jobs ≡ true → more ≡ raised steps jobs rows → sum_to 65 (λ a. get_or rows a 0) + cost steps jobs ≤ charge_limit → sum_to 65 (λ a. get_or more a 0) ≤ charge_limit
still_within steps jobs rows more st e l =
    let c = charged_close steps jobs rows st in
    let p = ap (λ (w : List ℕ). sum_to 65 (λ a. get_or w a 0)) e in
    omega (arith, l, c, p)

-- the ticks of a plan are those of its span
pub ticks_few : (steps : List Level) (jobs : List Job) (segments : List Segment) → standing jobs ≡ true → Worth steps jobs → want steps jobs ≡ false → segments ≡ plan steps jobs → ticks_of segments ≤ 1008000000
ticks_few steps jobs segments st w h e =
    let f = (w.serves h).fills in
    let b : span jobs * unit ≤ 200000 * unit = mul-le-mul_right unit (span_limit jobs st) in
    let p = ap ticks_of e in
    omega (arith, f, b, p)
