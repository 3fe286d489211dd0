-- The price of speed: between step h and the next, one grain more costs `price h` in power × unit, and the price never falls with h.
-- So the straight line through the points of step h and the next lies on or below every step's point: the tangent.
use Rattle.std.proofs.Common.{◌≡◌, ℕ, zero, suc, ◌+◌, ◌-◌, ◌*◌, ◌/◌, ◌<◌, ◌≤◌, List, length, sym, ap, ◌∙◌, inl, inr, add-zero, add-suc, mul-le-mul_right, mul_assoc, mul_comm, mul-le-mul_left, mul-pos, mul-add, mul_right_comm, le_of_mul-le-mul_right, arith}
use native.Mathlib.Nat.{div-mul_cancel, dvd_of_mod-eq-zero}
use Rattle.std.proofs.lemmas.Bool.{cases_lt}
use Rattle.model.specs.Steps.{unit, speed_at, power_at, gap, climb, Lawful}
use Rattle.model.specs.declared.step.Step.{Step}

-- the price of a grain between step h and the next
unfoldable pub price : List Step → ℕ → ℕ
price steps h = unit / gap steps h * climb steps h

-- p/a ≤ q/b, cross-multiplied, goes over to x and y that are u/a times p and u/b times q
slope_order : (u a b p q x y : ℕ) → 0 < a → 0 < b → x * a ≡ u * p → y * b ≡ u * q → p * b ≤ q * a → x ≤ y
slope_order u a b p q x y a0 b0 ex ey l =
    le_of_mul-le-mul_right {m = x} {n = y} {k = a * b} (
    let e1 : x * (a * b) ≡ u * (p * b) = sym (mul_assoc x a b) ∙ (ap (λ (z : ℕ). z * b) ex ∙ mul_assoc u p b) in
    let e2 : y * (a * b) ≡ u * (q * a) = ap (λ (z : ℕ). y * z) (mul_comm a b) ∙ (sym (mul_assoc y b a) ∙ (ap (λ (z : ℕ). z * a) ey ∙ mul_assoc u q a)) in
    let e3 = mul-le-mul_left u l in
    omega arith) (mul-pos a0 b0)

module _ (steps : List Step) (lawful : Lawful steps) where
  -- speeds and powers from step to step
  pub next_speed : (h : ℕ) → suc h < length steps → speed_at steps (suc h) ≡ speed_at steps h + gap steps h
  unfolding gap
  next_speed h l = let a = lawful.faster h l in omega arith

  pub next_power : (h : ℕ) → suc h < length steps → power_at steps (suc h) ≡ power_at steps h + climb steps h
  unfolding climb
  next_power h l = let a = lawful.dearer h l in omega arith

  pub gap_positive : (h : ℕ) → suc h < length steps → 0 < gap steps h
  unfolding gap
  gap_positive h l = let a = lawful.faster h l in omega arith

  -- a unit is a whole number of gaps
  pub unit_gaps : (h : ℕ) → suc h < length steps → unit / gap steps h * gap steps h ≡ unit
  unit_gaps h l = div-mul_cancel (gap steps h) (dvd_of_mod-eq-zero (gap steps h) (lawful.even h l))

  pub price_gap : (h : ℕ) → suc h < length steps → price steps h * gap steps h ≡ unit * climb steps h
  unfolding price
  price_gap h l = mul_right_comm (unit / gap steps h) (climb steps h) (gap steps h) ∙ ap (λ (x : ℕ). x * climb steps h) (unit_gaps h l)

  price_next : (h : ℕ) → suc (suc h) < length steps → price steps h ≤ price steps (suc h)
  price_next h l =
      let k : suc h < length steps = omega arith in
      slope_order unit (gap steps h) (gap steps (suc h)) (climb steps h) (climb steps (suc h)) (price steps h) (price steps (suc h))
      (gap_positive h k) (gap_positive (suc h) l) (price_gap h k) (price_gap (suc h) l) (lawful.bends h l)

  price_later : (d h : ℕ) → suc (h + d) < length steps → price steps h ≤ price steps (h + d)
  price_later zero h l = let e = ap (price steps) (add-zero h) in omega arith
  price_later (suc d) h l =
      let e = add-suc h d in
      let a = price_later d h (omega arith) in
      let b = price_next (h + d) (omega arith) in
      let c = ap (price steps) e in
      omega arith

  -- the price never falls
  pub price_grows : (h m : ℕ) → h ≤ m → suc m < length steps → price steps h ≤ price steps m
  price_grows h m l b =
      let e : h + (m - h) ≡ m = omega arith in
      let a = price_later (m - h) h (omega arith) in
      let c = ap (price steps) e in
      omega arith

  -- the tangent at h, above it and below it
  tangent_up : (d h : ℕ) → suc h < length steps → h + d < length steps
      → unit * power_at steps h + price steps h * speed_at steps (h + d) ≤ unit * power_at steps (h + d) + price steps h * speed_at steps h
  tangent_up zero h l b = rw (add-zero h) (omega arith)
  tangent_up (suc d) h l b =
      let e = add-suc h d in
      let k : suc (h + d) < length steps = omega arith in
      let a = tangent_up d h l (omega arith) in
      let v = ap (λ (x : ℕ). price steps h * x) (next_speed (h + d) k) in
      let v2 = mul-add (price steps h) (speed_at steps (h + d)) (gap steps (h + d)) in
      let p = next_power (h + d) k in
      let g = price_gap (h + d) k in
      let m = mul-le-mul_right (gap steps (h + d)) (price_later d h k) in
      rw e (omega arith)

  tangent_down : (d s : ℕ) → suc (s + d) < length steps
      → unit * power_at steps (s + d) + price steps (s + d) * speed_at steps s ≤ unit * power_at steps s + price steps (s + d) * speed_at steps (s + d)
  tangent_down zero s l = rw (add-zero s) (omega arith)
  tangent_down (suc d) s l =
      let e = add-suc s d in
      let e2 : suc s + d ≡ suc (s + d) = omega arith in
      let k : suc s < length steps = omega arith in
      let a : unit * power_at steps (suc (s + d)) + price steps (suc (s + d)) * speed_at steps (suc s) ≤ unit * power_at steps (suc s) + price steps (suc (s + d)) * speed_at steps (suc (s + d))
      = rw e2 at (tangent_down d (suc s) (omega arith)) in
      let v = ap (λ (x : ℕ). price steps (suc (s + d)) * x) (next_speed s k) in
      let v2 = mul-add (price steps (suc (s + d))) (speed_at steps s) (gap steps s) in
      let p = next_power s k in
      let g = price_gap s k in
      let m = mul-le-mul_right (gap steps s) (price_grows s (suc (s + d)) (omega arith) (omega arith)) in
      rw e (omega arith)

  -- at every step s the tangent of h lies on or below
  pub tangent : (h s : ℕ) → suc h < length steps → s < length steps
      → unit * power_at steps h + price steps h * speed_at steps s ≤ unit * power_at steps s + price steps h * speed_at steps h
  tangent h s l b =
      elim (cases_lt h s) [
        | inl k ↦
            let e : h + (s - h) ≡ s = omega arith in
            rw e at (tangent_up (s - h) h l (omega arith))
        | inr k ↦
            let e : s + (h - s) ≡ h = omega arith in
            rw e at (tangent_down (h - s) s (omega arith))
      ]

  -- and so it does for any work that step s can do
  pub tangent_under : (h s w : ℕ) → suc h < length steps → s < length steps → w ≤ speed_at steps s
      → unit * power_at steps h + price steps h * w ≤ unit * power_at steps s + price steps h * speed_at steps h
  tangent_under h s w l b k =
      let a = tangent h s l b in
      let m = mul-le-mul_left (price steps h) k in
      omega arith
