-- The heights of a path at whole times, all over one denominator.
-- The denominator is the product of the runs of all pieces, so that scaled heights are whole and no division is needed.
-- Where the path keeps the law the scaled height stays between the scaled walls, and where it bends it is on a wall.
use Rattle.std.proofs.Common.{◌≡◌, ℕ, suc, ◌+◌, ◌-◌, ◌*◌, ◌<◌, ◌≤◌, cond, leb, List, [], ◌∷◌, sym, ap, ◌∙◌, subst, inl, inr, mul-le-mul_right, mul_assoc, mul_comm, add-mul, lt_of_mul-lt-mul_right, mul-le-mul_left, mul-pos, mul-zero, mul-one, mul-suc, mul-add, le_of_mul-le-mul_right, mul_left_comm, arith}
use native.Mathlib.Nat.{lt_of_mul-lt-mul_left}
use Rattle.std.proofs.lemmas.Bool.{cases_lt, cases_order, cond-true, cond-false, le-leb, lt-leb, lt-ltb, le-ltb}
use Rattle.model.specs.Jobs.{total, span, ceiling, floor}
use Rattle.model.specs.Path.{run, rise, height_on, piece_from, Piece}
use Rattle.model.specs.declared.job.Job.{Job}
use Rattle.model.specs.declared.point.Point.{Point}
use Rattle.theory.proofs.Law.{Straight, Turns, Kept}

-- products multiplied out and put in order, so that `omega` sees equal ones as equal
pub ruleset terms = (mul-add, add-mul, mul_assoc, mul_comm, mul_left_comm)

-- the product of the runs of a path from p
pub scale : Point → List Point → ℕ
scale p [] = 1
scale p (q ∷ rs) = run p q * scale q rs

-- the height at time t of a path from p, times its scale
pub tall : Point → List Point → ℕ → ℕ
tall p [] t = p.height
tall p (q ∷ rs) t = cond (leb t q.time) (height_on p q t * scale q rs) (run p q * tall q rs t)

-- a piece at its two ends, and how it goes on
pub height_first : (p q : Point) → height_on p q p.time ≡ p.height * run p q
unfolding height_on run
height_first p q =
    let e : p.time - p.time ≡ 0 = omega arith in
    let f = ap (λ (x : ℕ). q.height * x) e in
    let g = mul-zero q.height in
    omega arith

pub height_last : (p q : Point) → height_on p q q.time ≡ q.height * run p q
unfolding height_on run
height_last p q =
    let e : q.time - q.time ≡ 0 = omega arith in
    let f = ap (λ (x : ℕ). p.height * x) e in
    let g = mul-zero p.height in
    omega arith

pub height_step : (p q : Point) (t : ℕ) → p.time ≤ t → t < q.time → height_on p q (suc t) + p.height ≡ height_on p q t + q.height
unfolding height_on
height_step p q t l m =
    let e : q.time - t ≡ suc (q.time - suc t) = omega arith in
    let f : suc t - p.time ≡ suc (t - p.time) = omega arith in
    let a = ap (λ (x : ℕ). p.height * x) e in
    let b = ap (λ (x : ℕ). q.height * x) f in
    let c = mul-suc p.height (q.time - suc t) in
    let d = mul-suc q.height (t - p.time) in
    omega arith

-- the scaled height before and after the first corner
tall_early : (p q : Point) (rs : List Point) (t : ℕ) → t ≤ q.time → tall p (q ∷ rs) t ≡ height_on p q t * scale q rs
unfolding tall
tall_early p q rs t l = cond-true _ _ _ (le-leb t q.time l)

pub tall_first : (p : Point) (c : List Point) (jobs : List Job) → Kept jobs p c → tall p c p.time ≡ p.height * scale p c
unfolding scale tall
tall_first p [] jobs k = sym (mul-one p.height)
tall_first p (q ∷ []) jobs k =
    let l = k.0.onward in
    let a : tall p (q ∷ []) p.time ≡ height_on p q p.time * scale q [] = cond-true _ _ _ (le-leb p.time q.time (omega arith)) in
    let b = ap (λ (x : ℕ). x * 1) (height_first p q) in
    a ∙ (b ∙ mul_assoc p.height (run p q) 1)
tall_first p (q ∷ (r ∷ rs)) jobs k =
    let l = k.0.onward in
    let a : tall p (q ∷ (r ∷ rs)) p.time ≡ height_on p q p.time * scale q (r ∷ rs) = cond-true _ _ _ (le-leb p.time q.time (omega arith)) in
    let b = ap (λ (x : ℕ). x * scale q (r ∷ rs)) (height_first p q) in
    a ∙ (b ∙ mul_assoc p.height (run p q) (scale q (r ∷ rs)))

-- from the first corner on, that corner's time included
tall_late : (p q : Point) (rs : List Point) (jobs : List Job) (t : ℕ) → Kept jobs q rs → q.time ≤ t → tall p (q ∷ rs) t ≡ run p q * tall q rs t
unfolding tall
tall_late p q rs jobs t k l =
    elim (cases_lt q.time t) [
      | inl m ↦ cond-false _ _ _ (lt-leb t q.time m)
      | inr m ↦
          let e : t ≡ q.time = omega arith in
          rw e (tall_early p q rs q.time (omega arith) ∙ (ap (λ (x : ℕ). x * scale q rs) (height_last p q) ∙ at (tall_first q rs jobs k)))
    ]
  where
    at : tall q rs q.time ≡ q.height * scale q rs → q.height * run p q * scale q rs ≡ run p q * tall q rs q.time
    at e = rw e (simp terms)

kept_rest : (jobs : List Job) (p q : Point) (rs : List Point) → Kept jobs p (q ∷ rs) → Kept jobs q rs
kept_rest jobs p q [] k = (k.1, k.2)
kept_rest jobs p q (r ∷ rs) k = k.2

kept_piece : (jobs : List Job) (p q : Point) (rs : List Point) → Kept jobs p (q ∷ rs) → Straight jobs p q
kept_piece jobs p q [] k = k.0
kept_piece jobs p q (r ∷ rs) k = k.0

run_pos : (p q : Point) → p.time < q.time → 0 < run p q
unfolding run
run_pos p q l = omega arith

pub scale_pos : (jobs : List Job) (p : Point) (c : List Point) → Kept jobs p c → 0 < scale p c
unfolding scale
scale_pos jobs p [] k = omega arith
scale_pos jobs p (q ∷ rs) k = mul-pos (run_pos p q (kept_piece jobs p q rs k).onward) (scale_pos jobs q rs (kept_rest jobs p q rs k))

-- between the walls
pub tall_within : (jobs : List Job) (p : Point) (c : List Point) → Kept jobs p c → floor jobs p.time ≤ p.height → p.height ≤ ceiling jobs p.time
    → (t : ℕ) → p.time ≤ t → t ≤ span jobs → (floor jobs t * scale p c ≤ tall p c t) × (tall p c t ≤ ceiling jobs t * scale p c)
unfolding scale tall
tall_within jobs p [] k lo hi t l m =
    let (a, b) = k in
    let e : t ≡ p.time = omega arith in
    rw e (omega (arith, mul-one (floor jobs p.time), mul-one (ceiling jobs p.time)))
tall_within jobs p (q ∷ rs) k lo hi t l m =
    elim (cases_lt q.time t) [
      | inl n ↦
          let s = kept_piece jobs p q rs k in
          let o = s.onward in
          let h = height_last p q in
          let pos = run_pos p q o in
          let x : floor jobs q.time * run p q ≤ q.height * run p q = omega (arith, s.above q.time (omega arith) (omega arith)) in
          let y : q.height * run p q ≤ ceiling jobs q.time * run p q = omega (arith, s.below q.time (omega arith) (omega arith)) in
          later n (tall_within jobs q rs (kept_rest jobs p q rs k) (le_of_mul-le-mul_right x pos) (le_of_mul-le-mul_right y pos) t (omega arith) m)
      | inr n ↦ early n
    ]
  where
    early : t ≤ q.time → (floor jobs t * (run p q * scale q rs) ≤ tall p (q ∷ rs) t) × (tall p (q ∷ rs) t ≤ ceiling jobs t * (run p q * scale q rs))
    early n =
        let s = kept_piece jobs p q rs k in
        let a = mul-le-mul_right (scale q rs) (s.above t l n) in
        let b = mul-le-mul_right (scale q rs) (s.below t l n) in
        let e = tall_early p q rs t n in
        let c = mul_assoc (floor jobs t) (run p q) (scale q rs) in
        let d = mul_assoc (ceiling jobs t) (run p q) (scale q rs) in
        omega arith

    later : q.time < t → (floor jobs t * scale q rs ≤ tall q rs t) × (tall q rs t ≤ ceiling jobs t * scale q rs)
        → (floor jobs t * (run p q * scale q rs) ≤ tall p (q ∷ rs) t) × (tall p (q ∷ rs) t ≤ ceiling jobs t * (run p q * scale q rs))
    later n (x, y) =
        let e = tall_late p q rs jobs t (kept_rest jobs p q rs k) (omega arith) in
        let a = mul-le-mul_left (run p q) x in
        let b = mul-le-mul_left (run p q) y in
        let c = mul_left_comm (floor jobs t) (run p q) (scale q rs) in
        let d = mul_left_comm (ceiling jobs t) (run p q) (scale q rs) in
        omega arith

-- how the path bends at suc t: a fall of the slope leaves it on the floor, a rise on the ceiling
abbrev pub Bends : List Job → Point → List Point → ℕ → Type 0
Bends jobs p c t =
    (tall p c t + tall p c (suc (suc t)) < tall p c (suc t) + tall p c (suc t) → tall p c (suc t) ≡ floor jobs (suc t) * scale p c)
    × (tall p c (suc t) + tall p c (suc t) < tall p c t + tall p c (suc (suc t)) → tall p c (suc t) ≡ ceiling jobs (suc t) * scale p c)

-- the sums at a corner, as numbers: the runs before and after are r and k, the heights before and at the corner x and x + u, after it q * k + v
corner_sum : (q r k s x u v : ℕ) → q * r ≡ x + u
    → x * (k * s) + r * ((q * k + v) * s) + u * k * s ≡ (x + u) * (k * s) + (x + u) * (k * s) + v * r * s
corner_sum q r k s x u v e =
    let f = simp terms at (ap (λ (y : ℕ). y * (k * s)) e) in
    simp terms (omega arith)

corner_falls : (q r k s x u v : ℕ) → q * r ≡ x + u
    → x * (k * s) + r * ((q * k + v) * s) < (x + u) * (k * s) + (x + u) * (k * s) → v * r < u * k
corner_falls q r k s x u v e l = let c = corner_sum q r k s x u v e in lt_of_mul-lt-mul_right s (omega arith)

corner_rises : (q r k s x u v : ℕ) → q * r ≡ x + u
    → (x + u) * (k * s) + (x + u) * (k * s) < x * (k * s) + r * ((q * k + v) * s) → u * k < v * r
corner_rises q r k s x u v e l = let c = corner_sum q r k s x u v e in lt_of_mul-lt-mul_right s (omega arith)

-- inside a piece there is no bend
piece_bends : (jobs : List Job) (p q : Point) (rs : List Point) (t : ℕ) → p.time ≤ t → suc (suc t) ≤ q.time → Bends jobs p (q ∷ rs) t
piece_bends jobs p q rs t l m =
    let a = tall_early p q rs t (omega arith) in
    let b = tall_early p q rs (suc t) (omega arith) in
    let c = tall_early p q rs (suc (suc t)) (omega arith) in
    let x = height_step p q t (omega arith) (omega arith) in
    let y = height_step p q (suc t) (omega arith) (omega arith) in
    let even : height_on p q t + height_on p q (suc (suc t)) ≡ height_on p q (suc t) + height_on p q (suc t) = omega arith in
    let f = add-mul (height_on p q t) (height_on p q (suc (suc t))) (scale q rs) in
    let g = add-mul (height_on p q (suc t)) (height_on p q (suc t)) (scale q rs) in
    let h = ap (λ (z : ℕ). z * scale q rs) even in
    ((λ n. absurd (omega arith)), (λ n. absurd (omega arith)))

-- at a corner the turn is lawful
corner_bends : (jobs : List Job) (p q r : Point) (rs : List Point) (t : ℕ) → Straight jobs p q → Turns jobs p q r → Straight jobs q r → Kept jobs q (r ∷ rs)
    → p.time ≤ t → q.time ≡ suc t → Bends jobs p (q ∷ (r ∷ rs)) t
unfolding scale rise
corner_bends jobs p q r rs t s w z k l e =
    let on = z.onward in
    let lv = s.level in
    let lw = z.level in
    let a = tall_early p q (r ∷ rs) t (omega arith) in
    let b = tall_early p q (r ∷ rs) (suc t) (omega arith) in
    let c = tall_late p q (r ∷ rs) jobs (suc (suc t)) k (omega arith) in
    let d = tall_early q r rs (suc (suc t)) (omega arith) in
    let x = height_step p q t (omega arith) (omega arith) in
    let y = height_step q r (suc t) (omega arith) (omega arith) in
    let h : height_on p q (suc t) ≡ q.height * run p q = rw (← e) (height_last p q) in
    let g : height_on q r (suc t) ≡ q.height * run q r = rw (← e) (height_first q r) in
    let u : height_on p q t + rise p q ≡ height_on p q (suc t) = omega arith in
    let v : height_on q r (suc (suc t)) ≡ q.height * run q r + rise q r = omega arith in
    let i : tall p (q ∷ (r ∷ rs)) t ≡ height_on p q t * (run q r * scale r rs) = a in
    let j : tall p (q ∷ (r ∷ rs)) (suc t) ≡ (height_on p q t + rise p q) * (run q r * scale r rs) = rw u b in
    let m : tall p (q ∷ (r ∷ rs)) (suc (suc t)) ≡ run p q * ((q.height * run q r + rise q r) * scale r rs) = c ∙ ap (λ (y : ℕ). run p q * y) (rw (← v) d) in
    let n : q.height * run p q ≡ height_on p q t + rise p q = omega arith in
    let o : tall p (q ∷ (r ∷ rs)) (suc t) ≡ q.height * (run p q * (run q r * scale r rs)) = b ∙ (rw h (mul_assoc q.height (run p q) (run q r * scale r rs))) in (
      (λ f. o ∙ on_wall (floor jobs) (w.falling (corner_falls q.height (run p q) (run q r) (scale r rs) (height_on p q t) (rise p q) (rise q r) n (rw (← i, ← j, ← m) f))).1),
      (λ f. o ∙ on_wall (ceiling jobs) (w.rising (corner_rises q.height (run p q) (run q r) (scale r rs) (height_on p q t) (rise p q) (rise q r) n (rw (← i, ← j, ← m) f))).1),
    )
  where
    on_wall : (wall : ℕ → ℕ) → q.height ≡ wall q.time → q.height * (run p q * (run q r * scale r rs)) ≡ wall (suc t) * (run p q * (run q r * scale r rs))
    on_wall wall f = ap (λ (x : ℕ). x * (run p q * (run q r * scale r rs))) (f ∙ ap wall e)

-- from the first corner on the bends are those of the rest
later_bends : (jobs : List Job) (p q : Point) (rs : List Point) (t : ℕ) → 0 < run p q → Kept jobs q rs → q.time ≤ t → Bends jobs q rs t → Bends jobs p (q ∷ rs) t
unfolding scale
later_bends jobs p q rs t o k l (x, y) =
    let a = tall_late p q rs jobs t k l in
    let b = tall_late p q rs jobs (suc t) k (omega arith) in
    let c = tall_late p q rs jobs (suc (suc t)) k (omega arith) in
    let f = mul-add (run p q) (tall q rs t) (tall q rs (suc (suc t))) in
    let g = mul-add (run p q) (tall q rs (suc t)) (tall q rs (suc t)) in (
      (λ n. b ∙ (ap (λ (z : ℕ). run p q * z) (x (lt_of_mul-lt-mul_left (run p q) (omega arith))) ∙ mul_left_comm (run p q) (floor jobs (suc t)) (scale q rs))),
      (λ n. b ∙ (ap (λ (z : ℕ). run p q * z) (y (lt_of_mul-lt-mul_left (run p q) (omega arith))) ∙ mul_left_comm (run p q) (ceiling jobs (suc t)) (scale q rs))),
    )

pub bends : (jobs : List Job) (p : Point) (c : List Point) (t : ℕ) → Kept jobs p c → p.time ≤ t → suc (suc t) ≤ span jobs → Bends jobs p c t
bends jobs p [] t k l m = let (a, b) = k in absurd (omega arith)
bends jobs p (q ∷ []) t k l m = let (s, a, b) = k in piece_bends jobs p q [] t l (omega arith)
bends jobs p (q ∷ (r ∷ rs)) t k l m =
    elim (cases_order q.time (suc t)) [
      | inl e ↦ corner_bends jobs p q r rs t k.0 k.1 (kept_piece jobs q r rs k.2) k.2 l e
      | inr d ↦ elim d [
        | inl n ↦ later_bends jobs p q (r ∷ rs) t (run_pos p q k.0.onward) k.2 (omega arith) (bends jobs q (r ∷ rs) t k.2 (omega arith) m)
        | inr n ↦ piece_bends jobs p q (r ∷ rs) t l (omega arith)
      ]
    ]

-- at the end
pub tall_last : (jobs : List Job) (p : Point) (c : List Point) → Kept jobs p c → tall p c (span jobs) ≡ total jobs * scale p c
unfolding scale tall
tall_last jobs p [] k = let (a, b) = k in rw b (sym (mul-one (total jobs)))
tall_last jobs p (q ∷ rs) k =
    let r = kept_rest jobs p q rs k in
    tall_late p q rs jobs (span jobs) r (in_time jobs q rs r)
    ∙ (ap (λ (x : ℕ). run p q * x) (tall_last jobs q rs r) ∙ mul_left_comm (run p q) (total jobs) (scale q rs))
  where
    in_time : (jobs : List Job) (q : Point) (rs : List Point) → Kept jobs q rs → q.time ≤ span jobs
    in_time jobs q [] k = let (a, b) = k in omega arith
    in_time jobs q (r ∷ rs) k = let a = (kept_piece jobs q r rs k).onward in let b = in_time jobs r rs (kept_rest jobs q r rs k) in omega arith

-- the scaled height and the height on the piece at that time are one
pub tall_piece : (jobs : List Job) (p : Point) (c : List Point) (t : ℕ) → Kept jobs p c → p.time ≤ t → t ≤ span jobs
    → tall p c t * run (piece_from p c t).from (piece_from p c t).to ≡ height_on (piece_from p c t).from (piece_from p c t).to t * scale p c
unfolding scale tall piece_from
tall_piece jobs p [] t k l m =
    let (a, b) = k in
    let e : t ≡ p.time = omega arith in
    let f : height_on p p t ≡ p.height * run p p = subst (λ (x : ℕ). height_on p p x ≡ p.height * run p p) (sym e) (height_first p p) in
    sym (mul-one (height_on p p t) ∙ f)
tall_piece jobs p (q ∷ []) t k l m =
    let (s, a, b) = k in
    ap (λ (x : ℕ). x * run p q) (tall_early p q [] t (omega arith)) ∙ (mul_assoc (height_on p q t) 1 (run p q) ∙ ap (λ (x : ℕ). height_on p q t * x) (mul_comm 1 (run p q)))
tall_piece jobs p (q ∷ (r ∷ rs)) t k l m =
    elim (cases_lt t q.time) [
      | inl n ↦
          let e = cond-true _ (record { from = p; to = q }) (piece_from q (r ∷ rs) t) (lt-ltb t q.time n) in
          subst (λ (x : Piece). tall p (q ∷ (r ∷ rs)) t * run x.from x.to ≡ height_on x.from x.to t * scale p (q ∷ (r ∷ rs))) (sym e)
          (ap (λ (x : ℕ). x * run p q) (tall_early p q (r ∷ rs) t (omega arith)) ∙ turned (height_on p q t) (scale q (r ∷ rs)) (run p q))
      | inr n ↦
          let e = cond-false _ (record { from = p; to = q }) (piece_from q (r ∷ rs) t) (le-ltb t q.time n) in
          subst (λ (x : Piece). tall p (q ∷ (r ∷ rs)) t * run x.from x.to ≡ height_on x.from x.to t * scale p (q ∷ (r ∷ rs))) (sym e)
          (later (piece_from q (r ∷ rs) t) (tall_late p q (r ∷ rs) jobs t k.2 n) (tall_piece jobs q (r ∷ rs) t k.2 n m))
    ]
  where
    turned : (x y z : ℕ) → x * y * z ≡ x * (z * y)
    turned x y z = simp terms

    later : (x : Piece) → tall p (q ∷ (r ∷ rs)) t ≡ run p q * tall q (r ∷ rs) t → tall q (r ∷ rs) t * run x.from x.to ≡ height_on x.from x.to t * scale q (r ∷ rs)
        → tall p (q ∷ (r ∷ rs)) t * run x.from x.to ≡ height_on x.from x.to t * scale p (q ∷ (r ∷ rs))
    later x f g =
        ap (λ (y : ℕ). y * run x.from x.to) f
        ∙ (mul_assoc (run p q) (tall q (r ∷ rs) t) (run x.from x.to)
        ∙ (ap (λ (y : ℕ). run p q * y) g ∙ mul_left_comm (run p q) (height_on x.from x.to t) (scale q (r ∷ rs))))
