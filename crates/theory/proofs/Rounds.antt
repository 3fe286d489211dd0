-- The work done along one straight piece, rounded down to whole gaps: exact at the ends of the piece, between the walls,
-- and from one time to a later one it grows by what the slow ticks and the fast ticks do, with no more fast ticks than there are ticks.
-- A unit is a whole number of gaps, so the least and the most that the ticks can do are whole numbers of gaps too, and rounding keeps between them.
use Rattle.std.proofs.Common.{◌≡◌, ℕ, suc, ◌+◌, ◌-◌, ◌*◌, ◌/◌, ◌<◌, ◌≤◌, List, length, sym, ap, ◌∙◌, subst, mul-le-mul_right, mul_assoc, mul_comm, div-lt_iff_lt-mul, add-mul, mul-le-mul_left, mul-pos, mul-zero, le-div_iff_mul-le, mul-suc, mul-add, mul_right_comm, div-mul-le_self, le_of_mul-le-mul_right, mul-div_cancel, arith}
use native.Mathlib.Nat.{lt-div-mul-add}
use Rattle.model.specs.Steps.{unit, speed_at, gap, top_speed, Lawful}
use Rattle.model.specs.Jobs.{ceiling, floor}
use Rattle.model.specs.Path.{run, rise, height_on, Piece}
use Rattle.model.specs.Plan.{slow_step, done_at, ticks_between, fast_ticks}
use Rattle.model.specs.declared.job.Job.{Job}
use Rattle.model.specs.declared.point.Point.{Point}
use Rattle.model.specs.declared.step.Step.{Step}
use Rattle.theory.proofs.Law.{Straight}
use Rattle.theory.proofs.Tangent.{next_speed, gap_positive, unit_gaps}
use Rattle.theory.proofs.Slow.{slow_known, slow_under, fast_over}

-- the height on a straight line between two times of it
line_grows : (a e x y d : ℕ) → a * y + (a + e) * (x + d) ≡ a * (y + d) + (a + e) * x + e * d
line_grows a e x y d =
    let p = mul-add (a + e) x d in
    let q = add-mul a e d in
    let r = mul-add a y d in
    omega arith

pub height_grows : (p q : Point) (s t : ℕ) → p.height ≤ q.height → p.time ≤ s → s ≤ t → t ≤ q.time
    → height_on p q t ≡ height_on p q s + rise p q * (t - s)
unfolding height_on rise
height_grows p q s t h a b c =
    let e1 : p.height + (q.height - p.height) ≡ q.height = omega arith in
    let e2 : s - p.time + (t - s) ≡ t - p.time = omega arith in
    let e3 : q.time - t + (t - s) ≡ q.time - s = omega arith in
    let g = line_grows p.height (q.height - p.height) (s - p.time) (q.time - t) (t - s) in
    rw (e1, e2, e3) at g

pub height_first : (p q : Point) → height_on p q p.time ≡ p.height * run p q
unfolding height_on run
height_first p q =
    let e : p.time - p.time ≡ 0 = omega arith in
    let a = ap (λ (x : ℕ). q.height * x) e in
    let b = mul-zero q.height in
    omega arith

pub height_last : (p q : Point) → height_on p q q.time ≡ q.height * run p q
unfolding height_on run
height_last p q =
    let e : q.time - q.time ≡ 0 = omega arith in
    let a = ap (λ (x : ℕ). p.height * x) e in
    let b = mul-zero p.height in
    omega arith

-- quotients by r of numbers that differ by m to m + n times r
quotient_low : (x y r m : ℕ) → 0 < r → x + m * r ≤ y → x / r + m ≤ y / r
quotient_low x y r m r0 l =
    (le-div_iff_mul-le {k = r} {x = x / r + m} {y = y} r0).1 (
    let a = div-mul-le_self x r in
    let b = add-mul (x / r) m r in
    omega arith)

quotient_high : (x y r m : ℕ) → 0 < r → y ≤ x + m * r → y / r ≤ x / r + m
quotient_high x y r m r0 l =
    let k : y / r < suc (x / r + m) = (div-lt_iff_lt-mul {k = r} {x = y} {y = suc (x / r + m)} r0).1 (
    let a = lt-div-mul-add {a = x} {b = r} r0 in
    let b = add-mul (x / r) m r in
    let d : suc (x / r + m) * r ≡ (x / r + m) * r + r = mul_comm (suc (x / r + m)) r ∙ (mul-suc r (x / r + m) ∙ ap (λ (z : ℕ). z + r) (mul_comm r (x / r + m))) in
    omega arith) in
    omega arith

-- the fast ticks, from the quotients
fast_exact : (q w m n g : ℕ) → 0 < g → q + m ≤ w → w ≤ q + (m + n)
    → ((w * g - q * g - m * g) / g ≤ n) × (w * g ≡ q * g + (m * g + (w * g - q * g - m * g) / g * g))
fast_exact q w m n g g0 l k =
    let e : q + (m + (w - q - m)) ≡ w = omega arith in
    let a = add-mul q (m + (w - q - m)) g in
    let b = add-mul m (w - q - m) g in
    let c = ap (λ (x : ℕ). x * g) e in
    let d : w * g - q * g - m * g ≡ (w - q - m) * g = omega arith in
    let f : (w * g - q * g - m * g) / g ≡ w - q - m = ap (λ (x : ℕ). x / g) d ∙ mul-div_cancel (w - q - m) g0 in
    let h = ap (λ (x : ℕ). x * g) f in
    (omega arith, omega arith)

-- one stretch in plain numbers: x and y are the heights times the run, at its begin and its end, n = u·d its ticks, u = a·g
stretch_exact : (u a g r v z d x y : ℕ) → 0 < r → 0 < g → a * g ≡ u → v * r ≤ z → z ≤ (v + g) * r → y ≡ x + z * d
    → ((u * y / (r * g) * g - u * x / (r * g) * g - u * d * v) / g ≤ u * d)
    × (u * y / (r * g) * g ≡ u * x / (r * g) * g + (u * d * v + (u * y / (r * g) * g - u * x / (r * g) * g - u * d * v) / g * g))
stretch_exact u a g r v z d x y r0 g0 ea low high ey =
    let m : ℕ = a * d * v in
    let em : m * g ≡ u * d * v =
    mul_right_comm (a * d) v g ∙ (ap (λ (k : ℕ). k * v) (mul_right_comm a d g) ∙ ap (λ (k : ℕ). k * d * v) ea) in
    let emr : m * (r * g) ≡ u * d * (v * r) =
    ap (λ (k : ℕ). m * k) (mul_comm r g) ∙ (sym (mul_assoc m g r) ∙ (ap (λ (k : ℕ). k * r) em ∙ mul_assoc (u * d) v r)) in
    let enr : u * d * (g * r) ≡ u * d * (r * g) = ap (λ (k : ℕ). u * d * k) (mul_comm g r) in
    let y1 : u * y ≡ u * x + u * d * z =
    ap (λ (k : ℕ). u * k) ey ∙ (mul-add u x (z * d) ∙ ap (λ (k : ℕ). u * x + k) (ap (λ (k : ℕ). u * k) (mul_comm z d) ∙ sym (mul_assoc u d z))) in
    let l1 = mul-le-mul_left (u * d) low in
    let l2 = mul-le-mul_left (u * d) high in
    let l3 = ap (λ (k : ℕ). u * d * k) (add-mul v g r) in
    let l4 = mul-add (u * d) (v * r) (g * r) in
    let l5 = add-mul m (u * d) (r * g) in
    let rg = mul-pos r0 g0 in
    let q1 = quotient_low (u * x) (u * y) (r * g) m rg (omega arith) in
    let q2 = quotient_high (u * x) (u * y) (r * g) (m + u * d) rg (omega arith) in
    subst (λ (k : ℕ). ((u * y / (r * g) * g - u * x / (r * g) * g - k) / g ≤ u * d)
    × (u * y / (r * g) * g ≡ u * x / (r * g) * g + (k + (u * y / (r * g) * g - u * x / (r * g) * g - k) / g * g))) em
    (fast_exact (u * x / (r * g)) (u * y / (r * g)) m (u * d) g g0 q1 q2)

-- u·b rounds to itself, and rounding keeps on its side of it
round_form : (u a g r b : ℕ) → a * g ≡ u → u * (b * r) ≡ a * b * (r * g)
round_form u a g r b ea =
    ap (λ (k : ℕ). k * (b * r)) (sym ea) ∙ (mul_right_comm a g (b * r) ∙ (ap (λ (k : ℕ). k * g) (sym (mul_assoc a b r)) ∙ mul_assoc (a * b) r g))

round_back : (u a g b : ℕ) → a * g ≡ u → a * b * g ≡ u * b
round_back u a g b ea = mul_right_comm a b g ∙ ap (λ (k : ℕ). k * b) ea

round_over : (u a g r b x : ℕ) → 0 < r → 0 < g → a * g ≡ u → b * r ≤ x → u * b ≤ u * x / (r * g) * g
round_over u a g r b x r0 g0 ea l =
    let e = round_form u a g r b ea in
    let f = round_back u a g b ea in
    let m = mul-le-mul_left u l in
    let q : a * b ≤ u * x / (r * g) = (le-div_iff_mul-le {k = r * g} {x = a * b} {y = u * x} (mul-pos r0 g0)).1 (omega arith) in
    let s = mul-le-mul_right g q in
    omega arith

round_under : (u a g r b x : ℕ) → 0 < r → 0 < g → a * g ≡ u → x ≤ b * r → u * x / (r * g) * g ≤ u * b
round_under u a g r b x r0 g0 ea l =
    let e = round_form u a g r b ea in
    let f = round_back u a g b ea in
    let m = mul-le-mul_left u l in
    let h = div-mul-le_self (u * x) (r * g) in
    let q : u * x / (r * g) ≤ a * b = le_of_mul-le-mul_right {m = u * x / (r * g)} {n = a * b} {k = r * g} (omega arith) (mul-pos r0 g0) in
    let s = mul-le-mul_right g q in
    omega arith

round_exact : (u a g r b x : ℕ) → 0 < r → 0 < g → a * g ≡ u → x ≡ b * r → u * x / (r * g) * g ≡ u * b
round_exact u a g r b x r0 g0 ea e =
    let p = round_over u a g r b x r0 g0 ea (omega arith) in
    let q = round_under u a g r b x r0 g0 ea (omega arith) in
    omega arith

module _ (steps : List Step) (lawful : Lawful steps) (jobs : List Job) (l : Piece) (straight : Straight jobs l.from l.to) where
  run_positive : 0 < run l.from l.to
  unfolding run
  run_positive = let a = straight.onward in omega arith

  -- at the ends of the piece the work done is exact, for every gap
  pub done_first : (h : ℕ) → suc h < length steps → done_at l (gap steps h) l.from.time ≡ unit * l.from.height
  unfolding done_at
  done_first h k =
      round_exact unit (unit / gap steps h) (gap steps h) (run l.from l.to) l.from.height (height_on l.from l.to l.from.time)
      run_positive (gap_positive steps lawful h k) (unit_gaps steps lawful h k) (height_first l.from l.to)

  pub done_last : (h : ℕ) → suc h < length steps → done_at l (gap steps h) l.to.time ≡ unit * l.to.height
  unfolding done_at
  done_last h k =
      round_exact unit (unit / gap steps h) (gap steps h) (run l.from l.to) l.to.height (height_on l.from l.to l.to.time)
      run_positive (gap_positive steps lawful h k) (unit_gaps steps lawful h k) (height_last l.from l.to)

  -- it keeps between the walls
  pub done_over : (h : ℕ) → suc h < length steps → (t : ℕ) → l.from.time ≤ t → t ≤ l.to.time → unit * floor jobs t ≤ done_at l (gap steps h) t
  unfolding done_at
  done_over h k t a b =
      round_over unit (unit / gap steps h) (gap steps h) (run l.from l.to) (floor jobs t) (height_on l.from l.to t)
      run_positive (gap_positive steps lawful h k) (unit_gaps steps lawful h k) (straight.above t a b)

  pub done_under : (h : ℕ) → suc h < length steps → (t : ℕ) → l.from.time ≤ t → t ≤ l.to.time → done_at l (gap steps h) t ≤ unit * ceiling jobs t
  unfolding done_at
  done_under h k t a b =
      round_under unit (unit / gap steps h) (gap steps h) (run l.from l.to) (ceiling jobs t) (height_on l.from l.to t)
      run_positive (gap_positive steps lawful h k) (unit_gaps steps lawful h k) (straight.below t a b)

  -- from s to t: enough ticks for the fast ones, and the two steps together do the work
  pub done_grows : rise l.from l.to ≤ top_speed steps * run l.from l.to → (s t : ℕ) → l.from.time ≤ s → s ≤ t → t ≤ l.to.time
      → (fast_ticks steps l s t ≤ ticks_between s t)
      × (done_at l (gap steps (slow_step steps l)) t ≡ done_at l (gap steps (slow_step steps l)) s + (ticks_between s t * speed_at steps (slow_step steps l) + fast_ticks steps l s t * gap steps (slow_step steps l)))
  unfolding done_at ticks_between fast_ticks
  done_grows gentle s t a b c =
      let k = slow_known steps lawful l in
      let v = next_speed steps lawful (slow_step steps l) k in
      let high : rise l.from l.to ≤ (speed_at steps (slow_step steps l) + gap steps (slow_step steps l)) * run l.from l.to
      = subst (λ (x : ℕ). rise l.from l.to ≤ x * run l.from l.to) v (fast_over steps lawful l gentle) in
      stretch_exact unit (unit / gap steps (slow_step steps l)) (gap steps (slow_step steps l)) (run l.from l.to) (speed_at steps (slow_step steps l)) (rise l.from l.to) (t - s)
      (height_on l.from l.to s) (height_on l.from l.to t)
      run_positive (gap_positive steps lawful (slow_step steps l) k) (unit_gaps steps lawful (slow_step steps l) k) (slow_under steps lawful l) high
      (height_grows l.from l.to s t straight.level a b c)
