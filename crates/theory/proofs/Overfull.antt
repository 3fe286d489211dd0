-- An overfull run leaves no way of running the jobs.
-- Between the run's first arrival and its last deadline a way does no more than the top speed does.
-- By that arrival it has done no more than the work before the run, and by that deadline no less than the work up to the run's end.
use Rattle.std.proofs.Common.{◌≡◌, ℕ, zero, suc, ◌+◌, ◌-◌, ◌*◌, ◌<◌, ◌≤◌, true, List, length, sym, ap, ◌∙◌, mul-le-mul_right, mul_assoc, mul_comm, add-mul, mul-le-mul_left, mul-add, arith}
use native.Mathlib.Nat.{mul-lt-mul_of_pos_left}
use Rattle.model.specs.Sums.{sum_to}
use Rattle.model.specs.Steps.{unit, speed_at, top_speed, Lawful}
use Rattle.model.specs.Jobs.{job_at, Ordered, span, ceiling, floor}
use Rattle.model.specs.Ways.{Way, Runnable, parts, before}
use Rattle.model.specs.Speed.{load, want}
use Rattle.model.specs.declared.job.Job.{Job}
use Rattle.model.specs.declared.step.Step.{Step}
use Rattle.model.proofs.Sums.{sum_to_cong, sum_to_mono, sum_to_mul, sum_to_split, sum_to_const}
use Rattle.theory.proofs.Cuts.{deadline_cut, cut_in_span}
use Rattle.theory.proofs.Walls.{part_grains, way_done, way_under, way_over}
use Rattle.theory.proofs.Shares.{deadlines_climb, ceiling_before, before_floor}
use Rattle.theory.proofs.Wanting.{sum_to_from, want_some}

-- the grains up to the end of a run are those before it and its own
load_grains : (jobs : List Job) (i j : ℕ) → i ≤ j → before jobs (suc j) ≡ before jobs i + unit * load jobs i j
unfolding before load
load_grains jobs i j l =
    let s = sum_to_from i (suc j) (λ m. (job_at jobs m).work * unit) (omega arith) in
    let c = sum_to_cong (suc j - i) (λ m. (job_at jobs (i + m)).work * unit) (λ m. unit * (job_at jobs (i + m)).work) (λ m b. mul_comm (job_at jobs (i + m)).work unit) in
    let f = sum_to_mul (suc j - i) unit (λ m. (job_at jobs (i + m)).work) in
    omega arith

-- no step is faster than the last, d steps further
under_top : (steps : List Step) → Lawful steps → (d i : ℕ) → i + suc d ≡ length steps → speed_at steps i ≤ top_speed steps
unfolding top_speed
under_top steps lawful zero i e = let f : length steps - 1 ≡ i = omega arith in let a = ap (speed_at steps) f in omega arith
under_top steps lawful (suc d) i e = let a = under_top steps lawful d (suc i) (omega arith) in let b = lawful.faster i (omega arith) in omega arith

regrouped : (v d u k : ℕ) → v * (d * u * k) ≡ k * u * (v * d)
regrouped v d u k =
    ap (λ (x : ℕ). v * x) (mul_assoc d u k) ∙ (sym (mul_assoc v d (u * k)) ∙ (mul_comm (v * d) (u * k) ∙ ap (λ (x : ℕ). x * (v * d)) (mul_comm u k)))

-- m times: from c to f is at least l and at most t
no_room : (m c l f t : ℕ) → 0 < m → c + l ≤ f → m * f ≤ m * c + m * t → t < l → ⊥
no_room m c l f t m0 a b k =
    let x = mul-le-mul_left m a in
    let y = mul-add m c l in
    let z = mul-lt-mul_of_pos_left k m0 in
    omega arith

module _ (steps : List Step) (jobs : List Job) (lawful : Lawful steps) (o : Ordered jobs) (k : ℕ) (pick : ℕ → ℕ) (give : ℕ → ℕ → ℕ) (w : Way steps jobs k pick give) where
  -- from time s to time t a way does no more than the top speed does
  way_speed : (s t : ℕ) → s ≤ t → t ≤ span jobs → way_done jobs k give t ≤ way_done jobs k give s + k * unit * (top_speed steps * (t - s))
  unfolding parts
  way_speed s t a b =
      let n : ℕ = (t - s) * unit * k in
      let e : s * unit * k + n ≡ t * unit * k = sym (add-mul (s * unit) ((t - s) * unit) k) ∙ ap (λ (x : ℕ). x * k) (let f : s * unit + (t - s) * unit ≡ t * unit = omega arith in f) in
      let c = sum_to_split (s * unit * k) n (part_grains jobs give) in
      let f = ap (λ (x : ℕ). sum_to x (part_grains jobs give)) e in
      let z = mul-le-mul_right k (mul-le-mul_right unit b) in
      let g = sum_to_mono n (λ p. part_grains jobs give (s * unit * k + p)) (λ p. top_speed steps)
      (λ p l.
      let r : s * unit * k + p < span jobs * unit * k = omega arith in
      let u = w.able (s * unit * k + p) r in
      let v = w.known (s * unit * k + p) r in
      let x = under_top steps lawful (length steps - suc (pick (s * unit * k + p))) (pick (s * unit * k + p)) (omega arith) in
      omega arith) in
      let h = sum_to_const n (top_speed steps) in
      let q : top_speed steps * n ≡ k * unit * (top_speed steps * (t - s)) = regrouped (top_speed steps) (t - s) unit k in
      omega arith

  -- so it has no room for an overfull run
  no_overfull : (i j : ℕ) → i ≤ j → j < length jobs → top_speed steps * ((job_at jobs j).deadline - (job_at jobs i).arrival) < load jobs i j → ⊥
  no_overfull i j l b f =
      let s : ℕ = (job_at jobs i).arrival in
      let t : ℕ = (job_at jobs j).deadline in
      let ends : t ≤ span jobs = cut_in_span jobs o t (deadline_cut jobs j b) in
      let begins : s < t = let x = o.timely i (omega arith) in let y = deadlines_climb jobs o i j l b in omega arith in
      let c = ceiling_before jobs o i (omega arith) in
      let d = before_floor jobs o j b in
      let g = load_grains jobs i j l in
      let u = way_under steps jobs k pick give w s (omega arith) in
      let v = way_over steps jobs k pick give w t ends in
      let x = way_speed s t (omega arith) ends in
      let k0 = w.fine in
      no_room (k * unit) (ceiling jobs s) (load jobs i j) (floor jobs t) (top_speed steps * (t - s)) (omega arith) (omega arith) (omega arith) f

-- an overfull run leaves no way
pub no_way_when_wanting : (steps : List Step) (jobs : List Job) → Lawful steps → Ordered jobs → want steps jobs ≡ true → Runnable steps jobs → ⊥
no_way_when_wanting steps jobs lawful o e r =
    let (i, j, l, b, f) = want_some steps jobs e in
    no_overfull steps jobs lawful o r.k r.pick r.give r.way i j l b f
