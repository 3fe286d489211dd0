-- Hold, by its outcomes.
use Rattle.std.proofs.Common.{◌≡◌, ℕ, suc, ◌+◌, ◌-◌, ◌*◌, ◌<◌, ◌≤◌, true, false, ltb, List, [], ◌∷◌, ◌++◌, length, take, is_some, Some, None, Option, sym, refl, ap, ◌∙◌, inl, inr, arith}
use Rattle.std.proofs.lemmas.List.{length_push, get_or_append_left, take_at}
use Rattle.std.proofs.lemmas.Bool.{cases_Bool, true≢false, lt-ltb, le-ltb}
use Rattle.model.specs.Steps.{Lawful, top_speed}
use Rattle.model.specs.Jobs.{job_at, no_job}
use Rattle.model.specs.Speed.{load, want}
use Rattle.model.specs.Charges.{cost, price}
use Rattle.model.proofs.Sums.{sum_to_cong}
use Rattle.model.specs.declared.job.Job.{Job}
use Rattle.model.specs.declared.step.Step.{Step as Level}
use Rattle.theory.proofs.Wanting.{want_none, want_some}
use Rattle.planner.specs.Planning.{want_line}
use Rattle.queue.specs.Queues.{push_lines}
use Rattle.refusal.specs.Refusals.{Told, told, line, first_of}
use Rattle.refusal.proofs.Lines.{first_hit, first_pass}
use Rattle.book.specs.Calls.{State, open_line, price_lines, with_job, holding, lines, accepts, becomes}
use Rattle.book.specs.Calls.Call.{holds}
use Rattle.book.specs.Calls.Answer.{refused, priced}
use Rattle.book.proofs.Keeping.{clear_first, clear_front}
use Rattle.book.proofs.Promises.{Step, refused_step, accepted_step, hit_longer, pass_longer}

-- without its last job a list of jobs wants no more speed
old_job : (jobs : List Job) (j : Job) (i : ℕ) → i < length jobs → job_at (jobs ++ (j ∷ [])) i ≡ job_at jobs i
unfolding job_at
old_job jobs j i l = get_or_append_left jobs (j ∷ []) no_job i l

old_load : (jobs : List Job) (j : Job) (a b : ℕ) → a ≤ b → b < length jobs → load (jobs ++ (j ∷ [])) a b ≡ load jobs a b
unfolding load
old_load jobs j a b l m = sum_to_cong (suc b - a) (λ k. (job_at (jobs ++ (j ∷ [])) (a + k)).work) (λ k. (job_at jobs (a + k)).work) (λ k n. ap (λ (x : Job). x.work) (old_job jobs j (a + k) (omega arith)))

pub want_shorter : (steps : List Level) (jobs : List Job) (j : Job) → want steps (with_job jobs j) ≡ false → want steps jobs ≡ false
want_shorter steps jobs j h =
    elim (cases_Bool (want steps jobs)) [
      | inl w ↦
          let (a, b, l, m, o) = want_some steps jobs w in
          let n = length_push jobs j in
          let p = want_none steps (with_job jobs j) h a b l (omega arith) in
          let e = old_load jobs j a b l m in
          let d = ap (λ (x : Job). x.deadline) (old_job jobs j b m) in
          let r = ap (λ (x : Job). x.arrival) (old_job jobs j a (omega arith)) in
          let s : (job_at (with_job jobs j) b).deadline - (job_at (with_job jobs j) a).arrival ≡ (job_at jobs b).deadline - (job_at jobs a).arrival = omega (arith, d, r) in
          let t = ap (λ (x : ℕ). top_speed steps * x) s in
          absurd (omega (arith, o, p, e, t))
      | inr w ↦ w
    ]

pub hold_open : (s : State) (j : Job) (steps : List Level) → Lawful steps → is_some s.held ≡ true → Step s s (holds j steps) (refused (told 8 0))
unfolding lines
hold_open s j steps k h = refused_step s (holds j steps) (told 8 0) k (first_hit (open_line s) (push_lines s.jobs j ++ price_lines steps s.jobs j) h)

-- the job or the speed stops it
pub hold_stopped :
    (s : State) (j : Job) (steps : List Level) (t : Told) → Lawful steps → is_some s.held ≡ false
    → Some t ≡ first_of (push_lines s.jobs j ++ (want_line steps (with_job s.jobs j) ∷ [])) → Step s s (holds j steps) (refused t)
unfolding lines
hold_stopped s j steps t k h e =
    refused_step s (holds j steps) t k
    (first_pass (open_line s) (push_lines s.jobs j ++ price_lines steps s.jobs j) h
    ∙ hit_longer (push_lines s.jobs j) (want_line steps (with_job s.jobs j)) (line (ltb (cost steps (with_job s.jobs j)) (cost steps s.jobs)) 17 0 ∷ []) t (sym e))

-- nothing stops the job, and speed is not wanting with it
module _ (s : State) (j : Job) (steps : List Level) (e : None ≡ first_of (push_lines s.jobs j ++ (want_line steps (with_job s.jobs j) ∷ []))) where
  free : (first_of (push_lines s.jobs j) ≡ None) × (want steps (with_job s.jobs j) ≡ false)
  free =
      let (a, b) = clear_front (push_lines s.jobs j) (want_line steps (with_job s.jobs j) ∷ []) (sym e) in
      (a, (clear_first (want_line steps (with_job s.jobs j)) [] b).0)

  -- so it is not wanting without it
  pub hold_able : (t : Told) → Some t ≡ first_of (want_line steps s.jobs ∷ []) → ⊥
  hold_able t f =
      let w = want_shorter steps s.jobs j free.1 in
      true≢false (ap (λ (o : Option Told). is_some o) (f ∙ first_pass (want_line steps s.jobs) [] w))

  to_price : is_some s.held ≡ false → first_of (open_line s ∷ (push_lines s.jobs j ++ price_lines steps s.jobs j)) ≡ first_of (line (ltb (cost steps (with_job s.jobs j)) (cost steps s.jobs)) 17 0 ∷ [])
  to_price h =
      first_pass (open_line s) (push_lines s.jobs j ++ price_lines steps s.jobs j) h
      ∙ (pass_longer (push_lines s.jobs j) (price_lines steps s.jobs j) free.0
      ∙ first_pass (want_line steps (with_job s.jobs j)) (line (ltb (cost steps (with_job s.jobs j)) (cost steps s.jobs)) 17 0 ∷ []) free.1)

  pub hold_cheap : Lawful steps → is_some s.held ≡ false → cost steps (with_job s.jobs j) < cost steps s.jobs → Step s s (holds j steps) (refused (told 17 0))
  unfolding lines
  hold_cheap k h l = refused_step s (holds j steps) (told 17 0) k (to_price h ∙ first_hit (line (ltb (cost steps (with_job s.jobs j)) (cost steps s.jobs)) 17 0) [] (lt-ltb _ _ l))

  pub hold_taken : (p : ℕ) → Lawful steps → is_some s.held ≡ false → cost steps s.jobs ≤ cost steps (with_job s.jobs j) → p ≡ cost steps (with_job s.jobs j) - cost steps s.jobs → Step s (holding s j) (holds j steps) (priced p)
  unfolding lines becomes accepts price
  hold_taken p k h l f =
      accepted_step s (holding s j) (holds j steps) (priced p) k (to_price h ∙ first_pass (line (ltb (cost steps (with_job s.jobs j)) (cost steps s.jobs)) 17 0) [] (le-ltb _ _ l))
      refl (ap priced f)

-- the held job may be put last
pub hold_waits : (s : State) (j : Job) (steps : List Level) → None ≡ first_of (push_lines s.jobs j ++ (want_line steps (with_job s.jobs j) ∷ [])) → is_some (first_of (push_lines s.jobs j)) ≡ false
hold_waits s j steps e = ap (λ (o : Option Told). is_some o) (free s j steps e).0

-- one job put last and taken off again
pub popped : (jobs js ks : List Job) (j : Job) → js ≡ jobs ++ (j ∷ []) → ks ≡ take (length js - 1) js → ks ≡ jobs
popped jobs js ks j e f =
    let n = length_push jobs j in
    let m = ap (λ (xs : List Job). length xs) e in
    let k : length js - 1 ≡ length jobs = omega arith in
    f ∙ (ap (λ (i : ℕ). take i js) k ∙ (ap (λ (xs : List Job). take (length jobs) xs) e ∙ take_at jobs (j ∷ []) (length jobs) refl))
