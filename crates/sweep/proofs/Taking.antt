-- A point that comes in, by whether it is then alone in its chain.
use Rattle.std.proofs.Common.{◌≡◌, ℕ, ◌<◌, ◌≤◌, Bool, true, false, cond, Option, None, Some, List, [], ◌∷◌, sym, refl, ap, ◌∙◌, arith}
use Rattle.std.proofs.lemmas.Bool.{cond-true, cond-false, true≢false}
use Rattle.std.specs.Bool.{then_some}
use Rattle.model.specs.declared.point.Point.{Point}
use Rattle.sweep.specs.Swept.{reached}
use Rattle.theory.proofs.Tight.{Bent, bent_on, take_in_bent}
use Rattle.theory.specs.Sweep.{inner, inward, tighten, pass, alone, take_in}

-- what is alone is the new point
pub tighten_alone : (in-of : ℕ → ℕ → Bool) (p : Point) (own : List Point) (x : Point) → alone (tighten in-of p own x) ≡ true → tighten in-of p own x ≡ x ∷ []
unfolding tighten alone
tighten_alone in-of p [] x e = refl
tighten_alone in-of p (q ∷ qs) x e = by (inward in-of p q x) e
  where
    more : (rs : List Point) → alone (q ∷ tighten in-of q rs x) ≡ true → q ∷ tighten in-of q rs x ≡ x ∷ []
    more [] h = absurd (true≢false (sym h))
    more (r ∷ rs) h = deep (inward in-of q r x) h
      where
        deep : (b : Bool) → alone (q ∷ cond b (r ∷ tighten in-of r rs x) (x ∷ [])) ≡ true → q ∷ cond b (r ∷ tighten in-of r rs x) (x ∷ []) ≡ x ∷ []
        deep true h = absurd (true≢false (sym h))
        deep false h = absurd (true≢false (sym h))

    by : (b : Bool) → alone (cond b (q ∷ tighten in-of q qs x) (x ∷ [])) ≡ true → cond b (q ∷ tighten in-of q qs x) (x ∷ []) ≡ x ∷ []
    by true h = more qs h
    by false h = refl

pub take_in_alone :
    (in-of : ℕ → ℕ → Bool) (p : Point) (own other : List Point) (x : Point) → alone (tighten in-of p own x) ≡ true
    → take_in in-of p own other x ≡ record { out = (pass in-of x p other).out; apex = (pass in-of x p other).apex; own = tighten in-of p own x; other = (pass in-of x p other).rest }
unfolding take_in
take_in_alone in-of p own other x e =
    cond-true (alone (tighten in-of p own x)) _ _ e
    ∙ ap (λ (w : List Point). record { out = (pass in-of x p other).out; apex = (pass in-of x p other).apex; own = w; other = (pass in-of x p other).rest }) (sym (tighten_alone in-of p own x e))

pub take_in_more :
    (in-of : ℕ → ℕ → Bool) (p : Point) (own other : List Point) (x : Point) → alone (tighten in-of p own x) ≡ false
    → take_in in-of p own other x ≡ record { out = []; apex = p; own = tighten in-of p own x; other = other }
unfolding take_in
take_in_more in-of p own other x e = cond-false (alone (tighten in-of p own x)) _ _ e

-- a wall that puts a point, and one that does not
pub reached_some : (in-of : ℕ → ℕ → Bool) (o : Option Point) (x p : Point) (own other : List Point) → o ≡ Some x → reached in-of o p own other ≡ take_in in-of p own other x
unfolding reached
reached_some in-of None x p own other e = cc
reached_some in-of (Some y) x p own other e = let f : y ≡ x = cc in ap (take_in in-of p own other) f

pub reached_none : (in-of : ℕ → ℕ → Bool) (o : Option Point) (p : Point) (own other : List Point) → o ≡ None → reached in-of o p own other ≡ record { out = []; apex = p; own = own; other = other }
unfolding reached
reached_none in-of None p own other e = refl
reached_none in-of (Some y) p own other e = cc

-- both chains stay bent
pub reached_bent :
    (up dn puts : Bool) (n m : ℕ) (x p : Point) (own other : List Point) → n < x.time → m ≤ x.time → Bent up n p own → Bent dn m p other
    → Bent up x.time (reached (inner up) (then_some puts x) p own other).apex (reached (inner up) (then_some puts x) p own other).own
    × Bent dn m (reached (inner up) (then_some puts x) p own other).apex (reached (inner up) (then_some puts x) p own other).other
unfolding reached
reached_bent up dn true n m x p own other l k a b = take_in_bent up dn n m p own other x l k a b
reached_bent up dn false n m x p own other l k a b = (bent_on up n x.time p own (omega arith) a, b)
