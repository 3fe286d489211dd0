-- No way of running the jobs has less energy than the drawn plan.
-- Seen from a cut on, the plan's energy and a way's differ by no more than the price there of what the way has done before and the plan has not.
-- At the end the two have done the same; one leg back the tangent of the leg pays for the leg, and where the price changes the walls pay for the change.
use Rattle.std.proofs.Common.{◌≡◌, ℕ, suc, ◌+◌, ◌-◌, ◌*◌, ◌<◌, ◌≤◌, ◌⊎◌, List, [], ◌∷◌, sym, refl, ap, ◌∙◌, subst, inl, inr, add_assoc, mul-le-mul_right, mul_assoc, mul_comm, add-mul, mul-zero, mul-add, mul_left_comm, arith}
use Rattle.model.specs.Sums.{sum_to, sum_of}
use Rattle.model.specs.Steps.{unit, speed_at, power_at, gap, climb}
use Rattle.model.specs.Jobs.{total, span, ceiling, floor, cuts}
use Rattle.model.specs.Plan.{segment, stretch, stretches, ticks_between, energy}
use Rattle.model.specs.Ways.{Way, parts, way_energy, Unbeaten}
use Rattle.model.specs.declared.job.Job.{Job}
use Rattle.model.specs.declared.point.Point.{Point}
use Rattle.model.specs.declared.step.Step.{Step}
use Rattle.model.proofs.Sums.{sum_to_add, sum_to_mul, sum_to_const, sum_to_split, sum_to_mono}
use Rattle.theory.proofs.Walls.{part_grains, way_done, way_under, way_over, way_total}
use Rattle.theory.proofs.Tangent.{price, next_power, price_gap, price_grows, tangent_under}
use Rattle.theory.proofs.Runs.{energy_joined}
use Rattle.theory.proofs.Drawn.{Drawable, drawn}
use Rattle.theory.proofs.Course.{slow_at, done_by, fast_at, Leg, Course, slow_at_known, course, done_end}

-- larger with larger adds up to no less than larger with smaller
crossed : (a b c d : ℕ) → a ≤ b → c ≤ d → a * d + b * c ≤ a * c + b * d
crossed a b c d l k =
    let e : a + (b - a) ≡ b = omega arith in
    let f : c + (d - c) ≡ d = omega arith in
    subst (λ (x : ℕ). a * d + x * c ≤ a * c + x * d) e
    (subst (λ (y : ℕ). a * y + (a + (b - a)) * c ≤ a * c + (a + (b - a)) * y) f (
    let p = mul-add a c (d - c) in
    let q = add-mul a (b - a) c in
    let r = mul-add (a + (b - a)) c (d - c) in
    let s = add-mul a (b - a) (d - c) in
    omega arith))

-- terms that are no larger from m to n
sum_to_between : (m n : ℕ) (f g : ℕ → ℕ) → m ≤ n → ((i : ℕ) → m ≤ i → i < n → f i ≤ g i) → sum_to n f + sum_to m g ≤ sum_to n g + sum_to m f
sum_to_between m n f g l h =
    let e : m + (n - m) ≡ n = omega arith in
    let a = sum_to_split m (n - m) f in
    let b = sum_to_split m (n - m) g in
    let ka = ap (λ (x : ℕ). sum_to x f) e in
    let kb = ap (λ (x : ℕ). sum_to x g) e in
    let c = sum_to_mono (n - m) (λ i. f (m + i)) (λ i. g (m + i)) (λ i k. h (m + i) (omega arith) (omega arith)) in
    omega arith

-- a constant and a multiple, summed
sum_to_line : (n a b : ℕ) (f : ℕ → ℕ) → sum_to n (λ i. a + b * f i) ≡ a * n + b * sum_to n f
sum_to_line n a b f =
    let p = sum_to_add n (λ i. a) (λ i. b * f i) in
    let q = sum_to_const n a in
    let r = sum_to_mul n b f in
    omega arith

-- the plan on one leg, where the tangent is an equality: n ticks, f of them fast; powers p and p + e, speeds v and v + g, price l
leg_exact : (u p e l v g n f a b : ℕ) → f ≤ n → l * g ≡ u * e → b ≡ a + (n * v + f * g)
    → u * (p * (n - f) + (p + e) * f) + l * a + l * v * n ≡ u * p * n + l * b
leg_exact u p e l v g n f a b k el eb =
    let e1 : n - f + f ≡ n = omega arith in
    let e2 = mul-add p (n - f) f in
    let e3 = ap (λ (x : ℕ). p * x) e1 in
    let e4 = add-mul p e f in
    let e5 : p * (n - f) + (p + e) * f ≡ p * n + e * f = omega arith in
    let e6 = ap (λ (x : ℕ). u * x) e5 in
    let e7 = mul-add u (p * n) (e * f) in
    let e8 = mul_assoc u p n in
    let e9 = mul_assoc u e f in
    let f1 = ap (λ (x : ℕ). x * f) el in
    let f2 : l * g * f ≡ l * (f * g) = mul_assoc l g f ∙ ap (λ (x : ℕ). l * x) (mul_comm g f) in
    let f3 = ap (λ (x : ℕ). l * x) eb in
    let f4 = mul-add l a (n * v + f * g) in
    let f5 = mul-add l (n * v) (f * g) in
    let f6 : l * v * n ≡ l * (n * v) = mul_assoc l v n ∙ ap (λ (x : ℕ). l * x) (mul_comm v n) in
    omega arith

-- one leg back: energies E of the plan and P of the way, work D of the plan and W of the way, parts x and x + n·k, prices l on the leg and m after it
leg_back : (u k E1 Et Ds Dt Ps Pt Pe Ws Wt l m v p n x : ℕ)
    → u * (k * Et) + m * (k * Dt) + u * Pt ≤ u * Pe + m * Wt
    → u * E1 + l * Ds + l * v * n ≡ u * p * n + l * Dt
    → u * p * (x + n * k) + l * Wt + (l * v * x + u * Ps) ≤ l * v * (x + n * k) + u * Pt + (u * p * x + l * Ws)
    → l * (k * Dt) + m * Wt ≤ l * Wt + m * (k * Dt)
    → u * (k * (E1 + Et)) + l * (k * Ds) + u * Ps ≤ u * Pe + l * Ws
leg_back u k E1 Et Ds Dt Ps Pt Pe Ws Wt l m v p n x ih plan way cross =
    let a = ap (λ (y : ℕ). k * y) plan in
    let a1 = mul-add k (u * E1 + l * Ds) (l * v * n) in
    let a2 = mul-add k (u * E1) (l * Ds) in
    let a3 = mul-add k (u * p * n) (l * Dt) in
    let a4 = mul_left_comm k u E1 in
    let a5 = mul_left_comm k l Ds in
    let a6 = mul_left_comm k l Dt in
    let a7 : k * (l * v * n) ≡ l * v * (n * k) = mul_left_comm k (l * v) n ∙ ap (λ (y : ℕ). l * v * y) (mul_comm k n) in
    let a8 : k * (u * p * n) ≡ u * p * (n * k) = mul_left_comm k (u * p) n ∙ ap (λ (y : ℕ). u * p * y) (mul_comm k n) in
    let b1 = mul-add (u * p) x (n * k) in
    let b2 = mul-add (l * v) x (n * k) in
    let c1 = ap (λ (y : ℕ). u * y) (mul-add k E1 Et) in
    let c2 = mul-add u (k * E1) (k * Et) in
    omega arith

-- the energy of the stretches, one leg taken off
energy_leg : (steps : List Step) (c : List Point) (s t : ℕ) (ts : List ℕ)
    → energy steps (stretches steps c (s ∷ (t ∷ ts)))
    ≡ power_at steps (slow_at steps c s) * (ticks_between s t - fast_at steps c s t)
    + (power_at steps (suc (slow_at steps c s)) * fast_at steps c s t + energy steps (stretches steps c (t ∷ ts)))
unfolding energy sum_of stretches stretch segment slow_at fast_at
energy_leg steps c s t ts = refl

energy_none : (steps : List Step) (c : List Point) (s : ℕ) → energy steps (stretches steps c (s ∷ [])) ≡ 0
unfolding energy sum_of stretches
energy_none steps c s = refl

-- the parts before t are those before s and those of the ticks between
parts_leg : (s t k : ℕ) → s ≤ t → t * unit * k ≡ s * unit * k + ticks_between s t * k
unfolding ticks_between
parts_leg s t k l =
    let e : t * unit ≡ s * unit + unit * (t - s) = omega arith in
    ap (λ (x : ℕ). x * k) e ∙ add-mul (s * unit) (unit * (t - s)) k

module _ (steps : List Step) (jobs : List Job) (c : List Point) (d : Drawable steps jobs c)
    (k : ℕ) (pick : ℕ → ℕ) (give : ℕ → ℕ → ℕ) (w : Way steps jobs k pick give) where
  -- the way's energy before time t
  spent : ℕ → ℕ
  spent t = sum_to (t * unit * k) (λ p. power_at steps (pick p))

  -- the price from time t on
  price_from : ℕ → ℕ
  price_from t = price steps (slow_at steps c t)

  -- the plan on one leg
  plan_leg : (s t : ℕ) → Leg steps jobs c s t
      → unit * (power_at steps (slow_at steps c s) * (ticks_between s t - fast_at steps c s t) + power_at steps (suc (slow_at steps c s)) * fast_at steps c s t)
      + price_from s * done_by steps c s + price_from s * speed_at steps (slow_at steps c s) * ticks_between s t
      ≡ unit * power_at steps (slow_at steps c s) * ticks_between s t + price_from s * done_by steps c t
  unfolding price_from
  plan_leg s t leg =
      let h = slow_at_known steps jobs c d s in
      rw (next_power steps d.lawful (slow_at steps c s) h)
      (leg_exact unit (power_at steps (slow_at steps c s)) (climb steps (slow_at steps c s)) (price steps (slow_at steps c s)) (speed_at steps (slow_at steps c s)) (gap steps (slow_at steps c s))
      (ticks_between s t) (fast_at steps c s t) (done_by steps c s) (done_by steps c t) leg.fits (price_gap steps d.lawful (slow_at steps c s) h) leg.grows)

  -- the way on one leg: each of its parts is on or above the tangent
  way_leg : (s t : ℕ) → s ≤ t → t ≤ span jobs
      → unit * power_at steps (slow_at steps c s) * (t * unit * k) + price_from s * way_done jobs k give t + (price_from s * speed_at steps (slow_at steps c s) * (s * unit * k) + unit * spent s)
      ≤ price_from s * speed_at steps (slow_at steps c s) * (t * unit * k) + unit * spent t + (unit * power_at steps (slow_at steps c s) * (s * unit * k) + price_from s * way_done jobs k give s)
  unfolding price_from spent parts
  way_leg s t l b =
      let h = slow_at_known steps jobs c d s in
      let st = mul-le-mul_right k (mul-le-mul_right unit l) in
      let te = mul-le-mul_right k (mul-le-mul_right unit b) in
      let low = λ (p : ℕ). unit * power_at steps (slow_at steps c s) + price steps (slow_at steps c s) * part_grains jobs give p in
      let high = λ (p : ℕ). price steps (slow_at steps c s) * speed_at steps (slow_at steps c s) + unit * power_at steps (pick p) in
      let m : sum_to (t * unit * k) low + sum_to (s * unit * k) high ≤ sum_to (t * unit * k) high + sum_to (s * unit * k) low
      = sum_to_between (s * unit * k) (t * unit * k) low high st (λ p x y.
      let z : p < span jobs * unit * k = omega arith in
      let g = tangent_under steps d.lawful (slow_at steps c s) (pick p) (part_grains jobs give p) h (w.known p z) (w.able p z) in
      omega arith) in
      let e1 = sum_to_line (t * unit * k) (unit * power_at steps (slow_at steps c s)) (price steps (slow_at steps c s)) (part_grains jobs give) in
      let e2 = sum_to_line (s * unit * k) (unit * power_at steps (slow_at steps c s)) (price steps (slow_at steps c s)) (part_grains jobs give) in
      let e3 = sum_to_line (t * unit * k) (price steps (slow_at steps c s) * speed_at steps (slow_at steps c s)) unit (λ p. power_at steps (pick p)) in
      let e4 = sum_to_line (s * unit * k) (price steps (slow_at steps c s) * speed_at steps (slow_at steps c s)) unit (λ p. power_at steps (pick p)) in
      omega arith

  -- where the price changes the walls are on the right side
  price_turn : (s t : ℕ) → Leg steps jobs c s t
      → price_from s * (k * done_by steps c t) + price_from t * way_done jobs k give t ≤ price_from s * way_done jobs k give t + price_from t * (k * done_by steps c t)
  unfolding price_from
  price_turn s t leg = by leg.turn
    where
      by : (slow_at steps c s ≡ slow_at steps c t)
          ⊎ (((slow_at steps c s ≤ slow_at steps c t) × (done_by steps c t ≡ unit * ceiling jobs t))
          ⊎ ((slow_at steps c t ≤ slow_at steps c s) × (done_by steps c t ≡ unit * floor jobs t)))
          → price steps (slow_at steps c s) * (k * done_by steps c t) + price steps (slow_at steps c t) * way_done jobs k give t
          ≤ price steps (slow_at steps c s) * way_done jobs k give t + price steps (slow_at steps c t) * (k * done_by steps c t)
      by (inl e) = rw e (omega arith)
      by (inr (inl (l, e))) =
          crossed (price steps (slow_at steps c s)) (price steps (slow_at steps c t)) (way_done jobs k give t) (k * done_by steps c t)
          (price_grows steps d.lawful (slow_at steps c s) (slow_at steps c t) l (slow_at_known steps jobs c d t))
          (let a = way_under steps jobs k pick give w t leg.inside in
          let b = ap (λ (x : ℕ). k * x) e in
          let f = mul_assoc k unit (ceiling jobs t) in
          omega arith)
      by (inr (inr (l, e))) =
          let g = crossed (price steps (slow_at steps c t)) (price steps (slow_at steps c s)) (k * done_by steps c t) (way_done jobs k give t)
          (price_grows steps d.lawful (slow_at steps c t) (slow_at steps c s) l (slow_at_known steps jobs c d s))
          (let a = way_over steps jobs k pick give w t leg.inside in
          let b = ap (λ (x : ℕ). k * x) e in
          let f = mul_assoc k unit (floor jobs t) in
          omega arith) in
          omega arith

  -- from any cut on
  from_cut : (s : ℕ) (ts : List ℕ) → Course steps jobs c s ts
      → unit * (k * energy steps (stretches steps c (s ∷ ts))) + price_from s * (k * done_by steps c s) + unit * spent s ≤ unit * spent (span jobs) + price_from s * way_done jobs k give s
  from_cut s [] e =
      let z = ap (λ (x : ℕ). k * x) (energy_none steps c s) in
      let z0 = mul-zero k in
      let same : k * done_by steps c s ≡ way_done jobs k give s =
      ap (λ (x : ℕ). k * x) (ap (done_by steps c) e ∙ done_end steps jobs c d)
      ∙ (sym (mul_assoc k unit (total jobs)) ∙ (sym (way_total steps jobs k pick give w) ∙ sym (ap (way_done jobs k give) e))) in
      let worth = ap (λ (x : ℕ). price_from s * x) same in
      let p = ap spent e in
      omega arith
  from_cut s (t ∷ ts) (leg, rest) =
      let l : s ≤ t = let o = leg.onward in omega arith in
      let h : ℕ = slow_at steps c s in
      let slow : ℕ = power_at steps (slow_at steps c s) * (ticks_between s t - fast_at steps c s t) in
      let fast : ℕ = power_at steps (suc (slow_at steps c s)) * fast_at steps c s t in
      let whole : energy steps (stretches steps c (s ∷ (t ∷ ts))) ≡ slow + fast + energy steps (stretches steps c (t ∷ ts))
      = energy_leg steps c s t ts ∙ sym (add_assoc slow fast (energy steps (stretches steps c (t ∷ ts)))) in
      rw whole (leg_back unit k (slow + fast) (energy steps (stretches steps c (t ∷ ts))) (done_by steps c s) (done_by steps c t) (spent s) (spent t) (spent (span jobs))
      (way_done jobs k give s) (way_done jobs k give t) (price_from s) (price_from t) (speed_at steps h) (power_at steps h) (ticks_between s t) (s * unit * k)
      (from_cut t ts rest) (plan_leg s t leg)
      (subst (λ (x : ℕ). unit * power_at steps h * x + price_from s * way_done jobs k give t + (price_from s * speed_at steps h * (s * unit * k) + unit * spent s)
      ≤ price_from s * speed_at steps h * x + unit * spent t + (unit * power_at steps h * (s * unit * k) + price_from s * way_done jobs k give s))
      (parts_leg s t k l) (way_leg s t l leg.inside))
      (price_turn s t leg))

  -- over the whole span
  unbeaten_by : k * energy steps (drawn steps jobs c) ≤ way_energy steps jobs k pick
  unfolding drawn way_energy parts spent sum_to
  unbeaten_by =
      let (rest, e, r, all) = course steps jobs c d in
      let a = from_cut 0 rest all in
      let b = energy_joined steps (stretches steps c (cuts jobs)) in
      let f = ap (λ (x : List ℕ). energy steps (stretches steps c x)) e in
      let g : k * energy steps (drawn steps jobs c) ≡ k * energy steps (stretches steps c (0 ∷ rest)) = ap (λ (x : ℕ). k * x) (b ∙ f) in
      let z : 0 * unit * k ≡ 0 = omega arith in
      let none : way_done jobs k give 0 ≡ 0 = ap (λ (x : ℕ). sum_to x (part_grains jobs give)) z in
      let free = ap (λ (x : ℕ). price_from 0 * x) none in
      let nil = mul-zero (price_from 0) in
      omega arith

-- no way of running the jobs has less energy than the drawn plan
pub plan_unbeaten : (steps : List Step) (jobs : List Job) (c : List Point) → Drawable steps jobs c → Unbeaten steps jobs (energy steps (drawn steps jobs c))
plan_unbeaten steps jobs c d k pick give w = unbeaten_by steps jobs c d k pick give w
