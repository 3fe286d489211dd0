-- Tightening from the back: a program drops points from the end of a chain while they are not inward, seen from the one before, of the new point.
-- On a chain that is bent strictly this leaves what `tighten` leaves, which goes from the front:
-- if a point of the chain is inward of the new one, so is each before it.
-- And the chains of the sweep stay bent strictly, with their times rising.
use Rattle.std.proofs.Common.{◌≡◌, ℕ, zero, suc, ◌<◌, ◌≤◌, Bool, true, false, cond, List, [], ◌∷◌, ◌++◌, reverse, length, get_or, take, sym, refl, ap, ◌∙◌, subst, inl, inr, arith, take-suc}
use Rattle.std.proofs.lemmas.Bool.{cases_Bool, cond-true, cond-false, cond_both}
use Rattle.std.proofs.lemmas.List.{reverse-append, take_all}
use Rattle.model.specs.declared.job.Job.{Job}
use Rattle.model.specs.declared.point.Point.{Point}
use Rattle.theory.proofs.Slopes.{inward_true, inward_carried}
use Rattle.theory.proofs.Passing.{OnFirst}
use Rattle.theory.specs.Sweep.{inner, inward, mark, stake, tighten, Passed, pass, Funnel, alone, take_in, reach}

-- a chain from p: its times rise and are not after n, and each point is strictly inward of the next one, seen from the one before
abbrev pub Bent : Bool → ℕ → Point → List Point → Type 0
Bent up n p [] = p.time ≤ n
Bent up n p (q ∷ qs) = (p.time ≤ q.time) × OnFirst (λ r. (q.time < r.time) × (inward (inner up) p q r ≡ true)) qs × Bent up n q qs

bent_start : (up : Bool) (n : ℕ) (p : Point) (qs : List Point) → Bent up n p qs → p.time ≤ n
bent_start up n p [] b = b
bent_start up n p (q ∷ qs) (l, o, b) = let k = bent_start up n q qs b in omega arith

-- if a point of the chain is inward of a later x, so is the first
inward_back : (up : Bool) (n : ℕ) (p q : Point) (qs : List Point) (x d : Point) (i : ℕ) → n < x.time → i ≤ length qs → Bent up n p (q ∷ qs)
    → inward (inner up) (get_or (p ∷ (q ∷ qs)) i d) (get_or (q ∷ qs) i d) x ≡ true → inward (inner up) p q x ≡ true
inward_back up n p q qs x d zero l k b e = e
inward_back up n p q [] x d (suc i) l k b e = absurd (omega arith)
inward_back up n p q (r ∷ rs) x d (suc i) l k (a, (o, t), b) e =
    let s = bent_start up n q (r ∷ rs) b in
    inward_carried up p q r x a (omega arith) (omega arith) t (inward_true up q r x (inward_back up n q r rs x d i l (omega arith) b e))

-- `tighten` by places: k points are kept when the last of them is inward of x, seen from the one before, and the next is not
pub tighten_take : (up : Bool) (n : ℕ) (p : Point) (qs : List Point) (x d : Point) (k : ℕ) → n < x.time → Bent up n p qs → k ≤ length qs
    → ((i : ℕ) → k ≡ suc i → inward (inner up) (get_or (p ∷ qs) i d) (get_or qs i d) x ≡ true)
    → (k < length qs → inward (inner up) (get_or (p ∷ qs) k d) (get_or qs k d) x ≡ false)
    → tighten (inner up) p qs x ≡ take k qs ++ (x ∷ [])
unfolding tighten
tighten_take up n p [] x d zero l b m h c = refl
tighten_take up n p [] x d (suc k) l b m h c = absurd (omega arith)
tighten_take up n p (q ∷ qs) x d zero l b m h c = cond-false _ _ _ (c (omega arith))
tighten_take up n p (q ∷ qs) x d (suc k) l b m h c =
    cond-true _ _ _ (inward_back up n p q qs x d k l (omega arith) b (h k refl))
    ∙ ap (λ (w : List Point). q ∷ w) (tighten_take up n q qs x d k l b.2 (omega arith) (λ i e. h (suc i) (ap suc e)) (λ o. c (omega arith)))

-- dropping from the back: the chain newest first, with the apex at its end
unfoldable pub tight_back : (ℕ → ℕ → Bool) → List Point → Point → List Point
tight_back in-of [] x = []
tight_back in-of (p ∷ []) x = p ∷ []
tight_back in-of (q ∷ (r ∷ rs)) x = cond (inward in-of r q x) (q ∷ (r ∷ rs)) (tight_back in-of (r ∷ rs) x)

-- the front of a list, newest first
newest : (line : List Point) (i : ℕ) (d : Point) → i < length line → reverse (take (suc i) line) ≡ get_or line i d ∷ reverse (take i line)
newest line i d l = ap reverse (take-suc line i d l) ∙ reverse-append (take i line) (get_or line i d ∷ [])

-- dropping from the back leaves the apex and k points, the last of which is inward of x while the one after it is not
module _ (up : Bool) (n : ℕ) (p : Point) (qs : List Point) (x d : Point) (l : n < x.time) (b : Bent up n p qs) where
  back_from : (m : ℕ) → m ≤ length qs → (m < length qs → inward (inner up) (get_or (p ∷ qs) m d) (get_or qs m d) x ≡ false)
      → x ∷ tight_back (inner up) (reverse (take (suc m) (p ∷ qs))) x ≡ reverse (p ∷ tighten (inner up) p qs x)
  unfolding tight_back
  back_from zero k c = ap (λ (w : List Point). reverse (p ∷ w)) (sym (tighten_take up n p qs x d 0 l b (omega arith) (λ i e. absurd (omega arith)) c))
  back_from (suc m) k c =
      let e = newest (p ∷ qs) (suc m) d (omega arith) in
      let f = newest (p ∷ qs) m d (omega arith) in
      let line = e ∙ ap (λ (w : List Point). get_or qs m d ∷ w) f in
      elim (cases_Bool (inward (inner up) (get_or (p ∷ qs) m d) (get_or qs m d) x)) [
        | inl i ↦
            ap (λ (w : List Point). x ∷ tight_back (inner up) w x) line
            ∙ (ap (λ (w : List Point). x ∷ w) (cond-true _ _ _ i)
            ∙ (ap (λ (w : List Point). x ∷ w) (sym line)
            ∙ (sym (reverse-append (take (suc (suc m)) (p ∷ qs)) (x ∷ []))
            ∙ ap (λ (w : List Point). reverse (p ∷ w)) (sym (tighten_take up n p qs x d (suc m) l b k (λ j g. at j g i) c)))))
        | inr i ↦
            ap (λ (w : List Point). x ∷ tight_back (inner up) w x) line
            ∙ (ap (λ (w : List Point). x ∷ w) (cond-false _ _ _ i)
            ∙ (ap (λ (w : List Point). x ∷ tight_back (inner up) w x) (sym f)
            ∙ back_from m (omega arith) (λ o. i)))
      ]
    where
      at : (j : ℕ) → suc m ≡ suc j → inward (inner up) (get_or (p ∷ qs) m d) (get_or qs m d) x ≡ true → inward (inner up) (get_or (p ∷ qs) j d) (get_or qs j d) x ≡ true
      at j g i = let h : m ≡ j = omega arith in subst (λ (y : ℕ). inward (inner up) (get_or (p ∷ qs) y d) (get_or qs y d) x ≡ true) h i

-- the two ways to tighten agree
pub tight_back_is : (up : Bool) (n : ℕ) (p : Point) (qs : List Point) (x : Point) → n < x.time → Bent up n p qs
    → x ∷ tight_back (inner up) (reverse (p ∷ qs)) x ≡ reverse (p ∷ tighten (inner up) p qs x)
tight_back_is up n p qs x l b =
    ap (λ (w : List Point). x ∷ tight_back (inner up) (reverse w) x) (sym (take_all (suc (length qs)) (p ∷ qs) (omega arith)))
    ∙ back_from up n p qs x p l b (length qs) (omega arith) (λ o. absurd (omega arith))

-- the chains of the sweep stay bent

-- known later, bent as before
pub bent_on : (up : Bool) (n m : ℕ) (p : Point) (qs : List Point) → n ≤ m → Bent up n p qs → Bent up m p qs
bent_on up n m p [] l b = omega arith
bent_on up n m p (q ∷ qs) l (a, o, b) = (a, o, bent_on up n m q qs l b)

tighten_bent : (up : Bool) (n : ℕ) (p : Point) (qs : List Point) (x : Point) → n < x.time → Bent up n p qs → Bent up x.time p (tighten (inner up) p qs x)
unfolding tighten
tighten_bent up n p [] x l b = (omega arith, tt, omega arith)
tighten_bent up n p (q ∷ qs) x l (a, o, b) =
    elim (cases_Bool (inward (inner up) p q x)) [
      | inl i ↦ subst (Bent up x.time p) (sym (cond-true (inward (inner up) p q x) (q ∷ tighten (inner up) q qs x) (x ∷ []) i)) (a, first qs o i, tighten_bent up n q qs x l b)
      | inr i ↦ subst (Bent up x.time p) (sym (cond-false (inward (inner up) p q x) (q ∷ tighten (inner up) q qs x) (x ∷ []) i)) (let s = bent_start up n q qs b in (omega arith, tt, omega arith))
    ]
  where
    first : (rs : List Point) → OnFirst (λ r. (q.time < r.time) × (inward (inner up) p q r ≡ true)) rs → inward (inner up) p q x ≡ true
        → OnFirst (λ r. (q.time < r.time) × (inward (inner up) p q r ≡ true)) (tighten (inner up) q rs x)
    first [] o i = (let s = bent_start up n q qs b in omega arith, i)
    first (r ∷ rs) o i = either (inward (inner up) q r x)
      where
        either : (c : Bool) → OnFirst (λ r. (q.time < r.time) × (inward (inner up) p q r ≡ true)) (cond c (r ∷ tighten (inner up) r rs x) (x ∷ []))
        either true = o
        either false = (let s = bent_start up n q qs b in omega arith, i)

-- along a chain the apex is one of its points, and the rest a chain
pass_bent : (up dn : Bool) (m : ℕ) (x p : Point) (cs : List Point) → Bent dn m p cs → Bent dn m (pass (inner up) x p cs).apex (pass (inner up) x p cs).rest
unfolding pass
pass_bent up dn m x p [] b = b
pass_bent up dn m x p (c ∷ cs) b =
    cond_both (inward (inner up) p x c) _ _ (λ (r : Passed). Bent dn m r.apex r.rest) (λ e. pass_bent up dn m x c cs b.2) (λ e. b)

pub take_in_bent : (up dn : Bool) (n m : ℕ) (p : Point) (own other : List Point) (x : Point) → n < x.time → m ≤ x.time → Bent up n p own → Bent dn m p other
    → Bent up x.time (take_in (inner up) p own other x).apex (take_in (inner up) p own other x).own × Bent dn m (take_in (inner up) p own other x).apex (take_in (inner up) p own other x).other
unfolding take_in
take_in_bent up dn n m p own other x l k a b =
    cond_both (alone (tighten (inner up) p own x)) _ _ (λ (r : Funnel). Bent up x.time r.apex r.own × Bent dn m r.apex r.other)
    (λ e.
    let c = pass_bent up dn m x p other b in
    let s = bent_start dn m _ _ c in
    ((omega arith, tt, omega arith), c))
    (λ e. (tighten_bent up n p own x l a, b))

-- the two chains after the sweep has got to time t, the one wall's points known up to t then
pub reach_bent : (up dn : Bool) (jobs : List Job) (n m t : ℕ) (p : Point) (own other : List Point) → n < t → m ≤ t → Bent up n p own → Bent dn m p other
    → Bent up t (reach up jobs t p own other).apex (reach up jobs t p own other).own × Bent dn m (reach up jobs t p own other).apex (reach up jobs t p own other).other
unfolding reach stake
reach_bent up dn jobs n m t p own other l k a b =
    cond_both (mark up jobs t) _ _ (λ (r : Funnel). Bent up t r.apex r.own × Bent dn m r.apex r.other)
    (λ e. take_in_bent up dn n m p own other (stake up jobs t) l k a b)
    (λ e. (bent_on up n t p own (omega arith) a, b))
