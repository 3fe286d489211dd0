-- Two paths that keep the law have the same heights.
-- Scale both to one denominator. Were the first above the second somewhere, take the first time at which it is.
-- There the difference has risen; above the second path the first is off the floor, so its slope does not fall,
-- and the second is off the ceiling, so its slope does not rise: the difference goes on rising, but at the end it is 0.
use Rattle.std.proofs.Common.{◌≡◌, ℕ, zero, suc, ◌+◌, ◌-◌, ◌*◌, ◌<◌, ◌≤◌, true, List, [], ◌∷◌, ap, ◌∙◌, subst, inl, inr, mul-le-mul_right, add-mul, mul-pos, zero-mul, mul_right_comm, le_of_mul-le-mul_right, arith}
use Rattle.std.proofs.lemmas.Bool.{cases_lt}
use Rattle.model.specs.Jobs.{total, span, ceiling, floor}
use Rattle.model.specs.Path.{start, run, piece_at, SameHeight, keeps}
use Rattle.model.specs.declared.job.Job.{Job}
use Rattle.model.specs.declared.point.Point.{Point}
use Rattle.theory.proofs.Law.{Straight, Kept, kept_from_keeps}
use Rattle.theory.proofs.Levels.{floor_le_total}
use Rattle.theory.proofs.Heights.{terms, height_first, scale, tall, scale_pos, tall_within, tall_first, tall_last, bends, tall_piece}

-- h is nowhere above g: from where it is first above, it would go on rising over g up to the end
module _ (h g : ℕ → ℕ) (n : ℕ)
    (convex : (t : ℕ) → suc (suc t) ≤ n → g (suc t) < h (suc t) → h (suc t) + h (suc t) ≤ h t + h (suc (suc t)))
    (concave : (t : ℕ) → suc (suc t) ≤ n → g (suc t) < h (suc t) → g t + g (suc (suc t)) ≤ g (suc t) + g (suc t)) where
  -- once above and rising over g, always
  ever_above : (k t : ℕ) → suc t + k ≤ n → g (suc t) < h (suc t) → h t + g (suc t) < h (suc t) + g t → g (suc t + k) < h (suc t + k)
  ever_above zero t l a r = let e : suc t ≡ suc t + 0 = omega arith in subst (λ (m : ℕ). g m < h m) e a
  ever_above (suc k) t l a r =
      let x = convex t (omega arith) a in
      let y = concave t (omega arith) a in
      let z = ever_above k (suc t) (omega arith) (omega arith) (omega arith) in
      let e : suc (suc t) + k ≡ suc t + suc k = omega arith in
      subst (λ (m : ℕ). g m < h m) e z

  never_above : h 0 ≤ g 0 → h n ≤ g n → (t : ℕ) → t ≤ n → h t ≤ g t
  never_above a e zero l = a
  never_above a e (suc t) l =
      let before = never_above a e t (omega arith) in
      elim (cases_lt (g (suc t)) (h (suc t))) [
        | inl o ↦
            let k : suc t + (n - suc t) ≡ n = omega arith in
            let z = ever_above (n - suc t) t (omega arith) o (omega arith) in
            let w : g n < h n = subst (λ (m : ℕ). g m < h m) k z in
            absurd (omega arith)
        | inr o ↦ o
      ]

-- one path is nowhere above another, both scaled by the other's scale too
not_above : (jobs : List Job) (c d : List Point) → Kept jobs start c → Kept jobs start d
    → floor jobs 0 ≤ 0 → (t : ℕ) → t ≤ span jobs → tall start c t * scale start d ≤ tall start d t * scale start c
not_above jobs c d k l z =
    never_above (λ t. tall start c t * scale start d) (λ t. tall start d t * scale start c) (span jobs) convex concave (first) (last)
  where
    above_floor : (t : ℕ) → t ≤ span jobs → floor jobs t * scale start c * scale start d ≤ tall start d t * scale start c
    above_floor t m =
        let a = mul-le-mul_right (scale start c) (tall_within jobs start d l z (omega arith) t (omega arith) m).0 in
        let b = mul_right_comm (floor jobs t) (scale start c) (scale start d) in
        omega arith

    below_ceiling : (t : ℕ) → t ≤ span jobs → tall start c t * scale start d ≤ ceiling jobs t * scale start d * scale start c
    below_ceiling t m =
        let a = mul-le-mul_right (scale start d) (tall_within jobs start c k z (omega arith) t (omega arith) m).1 in
        let b = mul_right_comm (ceiling jobs t) (scale start d) (scale start c) in
        omega arith

    convex : (t : ℕ) → suc (suc t) ≤ span jobs → tall start d (suc t) * scale start c < tall start c (suc t) * scale start d
        → tall start c (suc t) * scale start d + tall start c (suc t) * scale start d ≤ tall start c t * scale start d + tall start c (suc (suc t)) * scale start d
    convex t m a =
        let b = add-mul (tall start c (suc t)) (tall start c (suc t)) (scale start d) in
        let e = add-mul (tall start c t) (tall start c (suc (suc t))) (scale start d) in
        elim (cases_lt (tall start c t + tall start c (suc (suc t))) (tall start c (suc t) + tall start c (suc t))) [
          | inl f ↦
              let g = ap (λ (x : ℕ). x * scale start d) ((bends jobs start c t k (omega arith) m).0 f) in
              let h = above_floor (suc t) (omega arith) in
              absurd (omega arith)
          | inr f ↦ let g = mul-le-mul_right (scale start d) f in omega arith
        ]

    concave : (t : ℕ) → suc (suc t) ≤ span jobs → tall start d (suc t) * scale start c < tall start c (suc t) * scale start d
        → tall start d t * scale start c + tall start d (suc (suc t)) * scale start c ≤ tall start d (suc t) * scale start c + tall start d (suc t) * scale start c
    concave t m a =
        let b = add-mul (tall start d (suc t)) (tall start d (suc t)) (scale start c) in
        let e = add-mul (tall start d t) (tall start d (suc (suc t))) (scale start c) in
        elim (cases_lt (tall start d (suc t) + tall start d (suc t)) (tall start d t + tall start d (suc (suc t)))) [
          | inl f ↦
              let g = ap (λ (x : ℕ). x * scale start c) ((bends jobs start d t l (omega arith) m).1 f) in
              let h = below_ceiling (suc t) (omega arith) in
              absurd (omega arith)
          | inr f ↦ let g = mul-le-mul_right (scale start c) f in omega arith
        ]

    first : tall start c 0 * scale start d ≤ tall start d 0 * scale start c
    first =
        let a : tall start c 0 ≡ 0 = tall_first start c jobs k ∙ zero-mul (scale start c) in
        let b = ap (λ (x : ℕ). x * scale start d) a in
        let e : 0 * scale start d ≡ 0 = zero-mul (scale start d) in
        omega arith

    last : tall start c (span jobs) * scale start d ≤ tall start d (span jobs) * scale start c
    last =
        let a = ap (λ (x : ℕ). x * scale start d) (tall_last jobs start c k) in
        let b = ap (λ (x : ℕ). x * scale start c) (tall_last jobs start d l) in
        let e = mul_right_comm (total jobs) (scale start c) (scale start d) in
        omega arith

-- the start is on the floor's side of its first piece
first_piece : (jobs : List Job) (q : Point) → Straight jobs start q → floor jobs 0 ≤ 0
unfolding run
first_piece jobs q s =
    let o = s.onward in
    let a = s.above 0 (omega arith) (omega arith) in
    let b = height_first start q in
    le_of_mul-le-mul_right {m = floor jobs 0} {n = 0} {k = run start q} (omega arith) (omega arith)

-- at time 0 the floor is on the ground, or no path would keep the law
grounded : (jobs : List Job) (c : List Point) → Kept jobs start c → floor jobs 0 ≤ 0
grounded jobs [] k = let (a, b) = k in let l = floor_le_total jobs 0 in omega arith
grounded jobs (q ∷ []) k = first_piece jobs q k.0
grounded jobs (q ∷ (r ∷ rs)) k = first_piece jobs q k.0

-- both ways round the heights are equal
scaled : (jobs : List Job) (c d : List Point) → Kept jobs start c → Kept jobs start d → (t : ℕ) → t ≤ span jobs
    → tall start c t * scale start d ≡ tall start d t * scale start c
scaled jobs c d k l t m =
    let z = grounded jobs c k in
    let a = not_above jobs c d k l z t m in
    let b = not_above jobs d c l k z t m in
    omega arith

-- equal fractions: a / s and b / r are x / u and y / v
pub cross : (a b s r x y u v : ℕ) → 0 < s → 0 < r → a * r ≡ b * s → a * u ≡ x * s → b * v ≡ y * r → x * v ≡ y * u
cross a b s r x y u v p q e f g =
    let pos = mul-pos p q in
    let h = simp terms at (ap (λ (z : ℕ). z * (u * v)) e) in
    let i = simp terms at (ap (λ (z : ℕ). z * (r * v)) f) in
    let j = simp terms at (ap (λ (z : ℕ). z * (s * u)) g) in
    let k : x * v * (s * r) ≡ y * u * (s * r) = simp terms (omega arith) in
    let l = le_of_mul-le-mul_right {m = x * v} {n = y * u} {k = s * r} (omega arith) pos in
    let m = le_of_mul-le-mul_right {m = y * u} {n = x * v} {k = s * r} (omega arith) pos in
    omega arith

pub same_heights : (jobs : List Job) (c d : List Point) → keeps jobs c ≡ true → keeps jobs d ≡ true → (t : ℕ) → t ≤ span jobs → SameHeight c d t
unfolding keeps piece_at
same_heights jobs c d e f t m =
    let k = kept_from_keeps jobs start c e in
    let l = kept_from_keeps jobs start d f in
    cross (tall start c t) (tall start d t) (scale start c) (scale start d) _ _ _ _ (scale_pos jobs start c k) (scale_pos jobs start d l)
    (scaled jobs c d k l t m) (tall_piece jobs start c t k (omega arith) m) (tall_piece jobs start d t l (omega arith) m)
