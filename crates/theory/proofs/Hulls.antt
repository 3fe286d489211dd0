-- A chain of a wall's points is a hull: seen from each of its points, the next is at least as far inward as every later point of that wall.
-- So the apex's first chain point bounds the whole wall, and stays a bound of what follows when the apex moves along the chain.
-- A new point of the wall, put at the end by `tighten`, keeps this.
use Rattle.std.proofs.Common.{◌≡◌, ℕ, ◌<◌, ◌≤◌, Bool, true, List, [], ◌∷◌, refl, subst, inl, inr, arith}
use Rattle.std.proofs.lemmas.Bool.{cases_lt, cases_Bool, cond-true, cond-false}
use Rattle.model.specs.declared.job.Job.{Job}
use Rattle.model.specs.declared.point.Point.{Point}
use Rattle.theory.proofs.Slopes.{Before, before_same, before_through, inward_true, inward_false}
use Rattle.theory.specs.Sweep.{inner, inward, wall, mark, stake, tighten}

-- q is the first chain point from p on, of a wall whose points are known up to time n
pub record Staked (up : Bool) (jobs : List Job) (n : ℕ) (p q : Point) : Type 0 where
  pub onward : p.time < q.time
  pub known : q.time ≤ n
  pub on_wall : q.height ≡ wall up jobs q.time
  pub marked : mark up jobs q.time ≡ true
  pub first : (t : ℕ) → p.time < t → t ≤ n → mark up jobs t ≡ true → Before up p q (stake up jobs t)

-- the chain from p is a hull of the wall's points that are after p and known up to time n
abbrev pub Hull : Bool → List Job → ℕ → Point → List Point → Type 0
Hull up jobs n p [] = (t : ℕ) → p.time < t → t ≤ n → mark up jobs t ≡ true → ⊥
Hull up jobs n p (q ∷ qs) = Staked up jobs n p q × Hull up jobs n q qs

-- a wall has no point after n and before x
abbrev pub Bare : Bool → List Job → ℕ → ℕ → Type 0
Bare up jobs n x = (t : ℕ) → n < t → t < x → mark up jobs t ≡ true → ⊥

-- what holds of the wall's points up to n, and at x, holds up to x
pub up_to : (up : Bool) (jobs : List Job) (n x : ℕ) (P : ℕ → Type 0) → Bare up jobs n x → ((t : ℕ) → t ≤ n → mark up jobs t ≡ true → P t) → P x
    → (t : ℕ) → t ≤ x → mark up jobs t ≡ true → P t
up_to up jobs n x P bare old new t l m =
    elim (cases_lt n t) [
      | inl k ↦ elim (cases_lt t x) [ inl j ↦ absurd (bare t k j m) | inr j ↦ let e : x ≡ t = omega arith in subst P e new ]
      | inr k ↦ old t k m
    ]

-- the wall's points are known further where there is none
pub hull_on : (up : Bool) (jobs : List Job) (n x : ℕ) (p : Point) (qs : List Point) → n ≤ x → ((t : ℕ) → n < t → t ≤ x → mark up jobs t ≡ true → ⊥)
    → Hull up jobs n p qs → Hull up jobs x p qs
hull_on up jobs n x p [] l bare h = λ t o m e. elim (cases_lt n t) [ inl k ↦ bare t k m e | inr k ↦ h t o k e ]
hull_on up jobs n x p (q ∷ qs) l bare (s, h) =
    let k = s.known in (
      record {
        onward = s.onward;
        known = omega arith;
        on_wall = s.on_wall;
        marked = s.marked;
        first = λ t o m e. elim (cases_lt n t) [ inl j ↦ absurd (bare t j m e) | inr j ↦ s.first t o j e ];
      },
      hull_on up jobs n x q qs l bare h,
    )

-- one point as a chain
pub hull_lone : (up : Bool) (jobs : List Job) (x : ℕ) (p : Point) → p.time < x → mark up jobs x ≡ true
    → ((t : ℕ) → p.time < t → t < x → mark up jobs t ≡ true → Before up p (stake up jobs x) (stake up jobs t)) → Hull up jobs x p (stake up jobs x ∷ [])
unfolding stake
hull_lone up jobs x p l e h = (
  record {
    onward = l;
    known = omega arith;
    on_wall = refl;
    marked = e;
    first = λ t o m f. elim (cases_lt t x) [
      | inl j ↦ h t o j f
      | inr j ↦ let g : x ≡ t = omega arith in subst (λ (y : ℕ). Before up p (stake up jobs x) (stake up jobs y)) g (before_same up p (stake up jobs x))
    ];
  },
  λ t o m f. absurd (omega arith),
)

-- the wall's points seen from p against a new one at x that makes the first chain point needless
pub hull_lost : (up : Bool) (jobs : List Job) (n x : ℕ) (p q : Point) (qs : List Point) → Hull up jobs n p (q ∷ qs) → Bare up jobs n x → Before up p (stake up jobs x) q
    → (t : ℕ) → p.time < t → t < x → mark up jobs t ≡ true → Before up p (stake up jobs x) (stake up jobs t)
hull_lost up jobs n x p q qs (s, h) bare l t o m e =
    elim (cases_lt n t) [
      | inl j ↦ absurd (bare t j m e)
      | inr j ↦ before_through up p (stake up jobs x) q (stake up jobs t) s.onward l (s.first t o j e)
    ]

pub tighten_hull : (up : Bool) (jobs : List Job) (n x : ℕ) (p : Point) (qs : List Point) → n < x → p.time < x → Bare up jobs n x → mark up jobs x ≡ true
    → Hull up jobs n p qs → Hull up jobs x p (tighten (inner up) p qs (stake up jobs x))
unfolding tighten
tighten_hull up jobs n x p [] l o bare e h =
    hull_lone up jobs x p o e (λ t k m f. elim (cases_lt n t) [ inl j ↦ absurd (bare t j m f) | inr j ↦ absurd (h t k j f) ])
tighten_hull up jobs n x p (q ∷ qs) l o bare e h =
    elim (cases_Bool (inward (inner up) p q (stake up jobs x))) [
      | inl i ↦ rw (cond-true _ (q ∷ tighten (inner up) q qs (stake up jobs x)) (stake up jobs x ∷ []) i) (kept i (tighten_hull up jobs n x q qs l (later h.0) bare e h.1))
      | inr i ↦ rw (cond-false _ (q ∷ tighten (inner up) q qs (stake up jobs x)) (stake up jobs x ∷ []) i)
          (hull_lone up jobs x p o e (hull_lost up jobs n x p q qs h bare (inward_false up p q (stake up jobs x) i)))
    ]
  where
    later : Staked up jobs n p q → q.time < x
    later s = let k = s.known in omega arith

    kept : inward (inner up) p q (stake up jobs x) ≡ true → Hull up jobs x q (tighten (inner up) q qs (stake up jobs x))
        → Staked up jobs x p q × Hull up jobs x q (tighten (inner up) q qs (stake up jobs x))
    kept i r =
        let s = h.0 in
        let k = s.known in (
          record {
            onward = s.onward;
            known = omega arith;
            on_wall = s.on_wall;
            marked = s.marked;
            first = λ t j m f. up_to up jobs n x (λ u. p.time < u → Before up p q (stake up jobs u)) bare (λ u a b c. s.first u c a b) (λ c. inward_true up p q (stake up jobs x) i) t m f j;
          },
          r,
        )
