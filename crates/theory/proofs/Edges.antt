-- A straight piece between two points that are inside the walls keeps inside, if it passes every point of both walls on the inward side:
-- between deadlines the floor stays while the piece does not fall, and between arrivals the ceiling stays while the piece, seen backwards, does not rise.
-- And a corner on a wall's point from which the path goes on to the inward side of that wall is a lawful turn.
use Rattle.std.proofs.Common.{◌≡◌, ℕ, zero, suc, ◌+◌, ◌-◌, ◌*◌, ◌<◌, ◌≤◌, Bool, true, false, not, ◌||◌, eqb, List, ap, inl, inr, mul-le-mul_right, mul-add, le_of_mul-le-mul_right, arith}
use Rattle.std.proofs.lemmas.Bool.{cases_lt, cases_Bool, or_cases, or_left, eqb-true, ltb-true}
use Rattle.model.specs.Jobs.{span, ceiling, floor, arrives, due}
use Rattle.model.specs.Path.{run, rise, height_on}
use Rattle.model.specs.declared.job.Job.{Job}
use Rattle.model.specs.declared.point.Point.{Point}
use Rattle.theory.proofs.Law.{Straight, Turns}
use Rattle.theory.proofs.Heights.{terms, height_first, height_last, height_step}
use Rattle.theory.proofs.Levels.{Timely, floor_flat, ceiling_flat, floor_le_ceiling, ceiling_mono}
use Rattle.theory.proofs.Slopes.{Low, Before}
use Rattle.theory.specs.Sweep.{inner, inward, wall, mark, stake}

-- a point between the walls
pub record Inside (jobs : List Job) (p : Point) : Type 0 where
  pub over : floor jobs p.time ≤ p.height
  pub under : p.height ≤ ceiling jobs p.time

-- the piece from p to q passes each point of a wall between them on the inward side
abbrev pub Clear : Bool → List Job → Point → Point → Type 0
Clear up jobs p q = (t : ℕ) → p.time < t → t < q.time → mark up jobs t ≡ true → Before up p q (stake up jobs t)

-- the comparison of slopes as one of heights on the piece: w is the wall's height at run b, of q at run c
below_piece : (p q w b c d : ℕ) → c ≡ b + d → w * c + p * b ≤ q * b + p * c → w * c ≤ p * d + q * b
below_piece p q w b c d e l = let x = ap (λ (y : ℕ). p * y) e in let y = mul-add p b d in omega arith

above_piece : (p q w b c d : ℕ) → c ≡ b + d → q * b + p * c ≤ w * c + p * b → p * d + q * b ≤ w * c
above_piece p q w b c d e l = let x = ap (λ (y : ℕ). p * y) e in let y = mul-add p b d in omega arith

module _ (jobs : List Job) (p q : Point) (on : p.time < q.time) (lv : p.height ≤ q.height) where
  over_floor : Inside jobs p → floor jobs q.time ≤ q.height → Clear false jobs p q → (d t : ℕ) → p.time + d ≡ t → t ≤ q.time → floor jobs t * run p q ≤ height_on p q t
  unfolding mark
  over_floor i o c zero t e m =
      let f : t ≡ p.time = omega arith in
      let a = mul-le-mul_right (run p q) i.over in
      let b = height_first p q in
      rw f (omega arith)
  over_floor i o c (suc d) zero e m = absurd (omega arith)
  over_floor i o c (suc d) (suc t) e m =
      elim (cases_Bool (due jobs (suc t))) [
        | inl y ↦ elim (cases_lt (suc t) q.time) [
          | inl n ↦ at (c (suc t) (omega arith) n y)
          | inr n ↦ end (omega arith)
        ]
        | inr y ↦
            let a = over_floor i o c d t (omega arith) (omega arith) in
            let b = height_step p q t (omega arith) (omega arith) in
            let f = ap (λ (x : ℕ). x * run p q) (floor_flat jobs t y) in
            omega arith
      ]
    where
      at : Before false p q (stake false jobs (suc t)) → floor jobs (suc t) * run p q ≤ height_on p q (suc t)
      at l = unfold Low run stake wall height_on in below_piece p.height q.height (floor jobs (suc t)) (suc t - p.time) (q.time - p.time) (q.time - suc t) (omega arith) l

      end : suc t ≡ q.time → floor jobs (suc t) * run p q ≤ height_on p q (suc t)
      end f =
          let a = mul-le-mul_right (run p q) o in
          let b = height_last p q in
          rw f (omega arith)

  under_ceiling : Inside jobs p → q.height ≤ ceiling jobs q.time → Clear true jobs p q → (d t : ℕ) → t + d ≡ q.time → p.time ≤ t → height_on p q t ≤ ceiling jobs t * run p q
  under_ceiling i o c zero t e m =
      let f : t ≡ q.time = omega arith in
      let a = mul-le-mul_right (run p q) o in
      let b = height_last p q in
      rw f (omega arith)
  under_ceiling i o c (suc d) t e m =
      elim (cases_lt p.time t) [
        | inl n ↦ elim (cases_Bool (arrives jobs t)) [
          | inl y ↦ at (c t n (omega arith) (marked y))
          | inr y ↦
              let a = under_ceiling i o c d (suc t) (omega arith) (omega arith) in
              let b = height_step p q t (omega arith) (omega arith) in
              let f = ap (λ (x : ℕ). x * run p q) (ceiling_flat jobs t y) in
              omega arith
        ]
        | inr n ↦ begin (omega arith)
      ]
    where
      marked : arrives jobs t ≡ true → mark true jobs t ≡ true
      marked y = unfold mark in or_left (arrives jobs t) (eqb t (span jobs)) y

      at : Before true p q (stake true jobs t) → height_on p q t ≤ ceiling jobs t * run p q
      at l = unfold Low run stake wall height_on in above_piece p.height q.height (ceiling jobs t) (t - p.time) (q.time - p.time) (q.time - t) (omega arith) l

      begin : t ≡ p.time → height_on p q t ≤ ceiling jobs t * run p q
      begin f =
          let a = mul-le-mul_right (run p q) i.under in
          let b = height_first p q in
          rw f (omega arith)

  pub straight_edge : Inside jobs p → Inside jobs q → ((up : Bool) → Clear up jobs p q) → Straight jobs p q
  straight_edge i j c = record {
    onward = on;
    level = lv;
    above = λ t l m. over_floor i j.over (c false) (t - p.time) t (omega arith) m;
    below = λ t l m. under_ceiling i j.under (c true) (q.time - t) t (omega arith) l;
  }

-- slopes as rises and runs: p, q, r are heights, u and v the rises between them, a and b the runs, c their sum
spread : (p q r u v a b c : ℕ) → q ≡ p + u → r ≡ q + v → c ≡ a + b → q * c + p * a + v * a ≡ r * a + p * c + u * b
spread p q r u v a b c e f g =
    let h = simp terms at (ap (λ (y : ℕ). q * y) g) in
    let i = simp terms at (ap (λ (y : ℕ). p * y) g) in
    let j = simp terms at (ap (λ (y : ℕ). y * a) f) in
    let k = simp terms at (ap (λ (y : ℕ). y * b) e) in
    omega arith

-- a lawful turn at a wall's point q, before the end
pub wall_turn : (up : Bool) (jobs : List Job) (p q r : Point) → p.time < q.time → q.time < r.time → p.height ≤ q.height → q.height ≤ r.height
    → q.height ≡ wall up jobs q.time → mark up jobs q.time ≡ true → q.time < span jobs → Before up p q r → Turns jobs p q r
unfolding Low wall mark rise run
wall_turn up jobs p q r a b c d e m s l = go up e m l
  where
    sums : q.height * run p r + p.height * run p q + rise q r * run p q ≡ r.height * run p q + p.height * run p r + rise p q * run q r
    sums = spread p.height q.height r.height (rise p q) (rise q r) (run p q) (run q r) (run p r) (omega arith) (omega arith) (omega arith)

    arrived : (arrives jobs q.time || eqb q.time (span jobs)) ≡ true → arrives jobs q.time ≡ true
    arrived m = elim (or_cases (arrives jobs q.time) (eqb q.time (span jobs)) m) [
      | inl y ↦ y
      | inr y ↦ let f = eqb-true q.time (span jobs) y in absurd (omega arith)
    ]

    go : (up : Bool) → q.height ≡ wall up jobs q.time → mark up jobs q.time ≡ true → Before up p q r → Turns jobs p q r
    go true e m l = let n = sums in record {
      rising = λ x. (arrived m, e);
      falling = λ x. absurd (omega arith);
    }
    go false e m l = let n = sums in record {
      rising = λ x. absurd (omega arith);
      falling = λ x. (m, e);
    }

-- the points of a wall are inside
pub stake_inside : (up : Bool) (jobs : List Job) (q : Point) → Timely jobs → q.height ≡ wall up jobs q.time → Inside jobs q
unfolding wall
stake_inside true jobs q h e = let l = floor_le_ceiling jobs q.time h in record { over = omega arith; under = omega arith }
stake_inside false jobs q h e = let l = floor_le_ceiling jobs q.time h in record { over = omega arith; under = omega arith }

-- a point x of a wall never lies strictly inward of the other wall's point c at the same time
pub walls_apart : (up : Bool) (jobs : List Job) (p c : Point) (x : ℕ) → Timely jobs → c.height ≡ wall (not up) jobs c.time
    → inward (inner up) p (stake up jobs x) c ≡ true → c.time ≡ x → ⊥
unfolding inward inner stake wall run
walls_apart true jobs p c x h e i f =
    let l = ltb-true _ _ i in
    let m : floor jobs x ≤ ceiling jobs x = floor_le_ceiling jobs x h in
    let g : c.height ≡ floor jobs x = rw (← f) e in
    let n : c.height ≤ ceiling jobs x = omega arith in
    let k = mul-le-mul_right (x - p.time) n in
    let o : c.time - p.time ≡ x - p.time = omega arith in
    let y = ap (λ (z : ℕ). ceiling jobs x * z) o in
    let z = ap (λ (z : ℕ). p.height * z) o in
    absurd (omega arith)
walls_apart false jobs p c x h e i f =
    let l = ltb-true _ _ i in
    let m : floor jobs x ≤ ceiling jobs x = floor_le_ceiling jobs x h in
    let g : c.height ≡ ceiling jobs x = rw (← f) e in
    let n : floor jobs x ≤ c.height = omega arith in
    let k = mul-le-mul_right (x - p.time) n in
    let o : c.time - p.time ≡ x - p.time = omega arith in
    let y = ap (λ (z : ℕ). floor jobs x * z) o in
    let z = ap (λ (z : ℕ). p.height * z) o in
    absurd (omega arith)

-- q is no lower than p when x is not and q is at least as steep: heights p, x, q and the runs to x and q
steep : (p x q a b : ℕ) → 0 < a → p ≤ x → x * b + p * a ≤ q * a + p * b → p ≤ q
steep p x q a b o l m =
    let k = mul-le-mul_right b l in
    let n : p * a ≤ q * a = omega arith in
    le_of_mul-le-mul_right n o

-- a corner c at the other wall, found because of the wall's point at x, is no lower than the apex
pub corner_level : (up : Bool) (jobs : List Job) (p c : Point) (x : ℕ) → Inside jobs p → p.time < c.time → p.time < x → c.height ≡ wall (not up) jobs c.time
    → Before up p (stake up jobs x) c → p.height ≤ c.height
unfolding Low run stake wall
corner_level true jobs p c x i o n e l =
    let a = ceiling_mono jobs p.time x (omega arith) in
    let b = i.under in
    steep p.height (ceiling jobs x) c.height (x - p.time) (c.time - p.time) (omega arith) (omega arith) l
corner_level false jobs p c x i o n e l =
    let a = ceiling_mono jobs p.time c.time (omega arith) in
    let b = i.under in
    omega arith
