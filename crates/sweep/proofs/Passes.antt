-- The passing of a chain, step by step. Along the loop, what is put out together with what passing the rest would put out
-- is what passing the whole puts out; likewise the apex and the rest of the chain.
use Rattle.std.proofs.Common.{◌≡◌, ℕ, Bool, true, false, List, [], ◌∷◌, ◌++◌, drop, slice_get, Option, None, Some, sym, refl, ap, ◌∙◌}
use Rattle.std.proofs.lemmas.List.{append_assoc, append-nil}
use Rattle.std.proofs.lemmas.Bool.{cond-true, cond-false}
use Rattle.model.specs.declared.point.Point.{Point}
use Rattle.theory.specs.Sweep.{inward, Passed, pass}

-- the first of a list, and the rest
pub first_is : (xs : List Point) (c : Point) (o : Option Point) → o ≡ slice_get xs 0 → o ≡ Some c → xs ≡ c ∷ drop 1 xs
first_is [] c o e f = cc
first_is (x ∷ xs) c o e f = cc

pub first_none : (xs : List Point) (o : Option Point) → o ≡ slice_get xs 0 → o ≡ None → xs ≡ []
first_none [] o e f = refl
first_none (x ∷ xs) o e f = cc

-- nothing is left to pass
pass_end : (in-of : ℕ → ℕ → Bool) (x p : Point) → pass in-of x p [] ≡ record { out = []; apex = p; rest = [] }
unfolding pass
pass_end in-of x p = refl

-- the way does not cut across
pass_stop : (in-of : ℕ → ℕ → Bool) (x p c : Point) (cs : List Point) → inward in-of p x c ≡ false → pass in-of x p (c ∷ cs) ≡ record { out = []; apex = p; rest = c ∷ cs }
unfolding pass
pass_stop in-of x p c cs e = cond-false (inward in-of p x c) _ _ e

-- it does, and a corner is put out
pass_more :
    (in-of : ℕ → ℕ → Bool) (x p c : Point) (cs : List Point) → inward in-of p x c ≡ true
    → pass in-of x p (c ∷ cs) ≡ record { out = c ∷ (pass in-of x c cs).out; apex = (pass in-of x c cs).apex; rest = (pass in-of x c cs).rest }
unfolding pass
pass_more in-of x p c cs e = cond-true (inward in-of p x c) _ _ e

-- the state of the loop against what the whole comes to
abbrev pub Along : (ℕ → ℕ → Bool) → Point → List Point → Point → List Point → List Point → Passed → Type 0
Along in-of x out p chain before all =
    (out ++ (pass in-of x p chain).out ≡ before ++ all.out) × ((pass in-of x p chain).apex ≡ all.apex) × ((pass in-of x p chain).rest ≡ all.rest)

pub along_more :
    (in-of : ℕ → ℕ → Bool) (x : Point) (out more : List Point) (p c : Point) (chain cs before : List Point) (all : Passed)
    → Along in-of x out p chain before all → chain ≡ c ∷ cs → true ≡ inward in-of p x c → more ≡ out ++ (c ∷ []) → Along in-of x more c cs before all
along_more in-of x out more p c chain cs before all (o, a, r) e h m =
    let s : pass in-of x p chain ≡ record { out = c ∷ (pass in-of x c cs).out; apex = (pass in-of x c cs).apex; rest = (pass in-of x c cs).rest } = ap (λ (w : List Point). pass in-of x p w) e ∙ pass_more in-of x p c cs (sym h) in (
      ap (λ (w : List Point). w ++ (pass in-of x c cs).out) m
          ∙ (append_assoc out (c ∷ []) (pass in-of x c cs).out
          ∙ (sym (ap (λ (w : Passed). out ++ w.out) s) ∙ o)),
      sym (ap (λ (w : Passed). w.apex) s) ∙ a,
      sym (ap (λ (w : Passed). w.rest) s) ∙ r,
    )

-- what holds where the loop stops
abbrev pub Stopped : List Point → Point → List Point → List Point → Passed → Type 0
Stopped out p chain before all = (p ≡ all.apex) × (chain ≡ all.rest) × (out ≡ before ++ all.out)

at_rest :
    (in-of : ℕ → ℕ → Bool) (x : Point) (out : List Point) (p : Point) (chain before : List Point) (all : Passed)
    → Along in-of x out p chain before all → pass in-of x p chain ≡ record { out = []; apex = p; rest = chain } → Stopped out p chain before all
at_rest in-of x out p chain before all (o, a, r) s = (
  sym (ap (λ (w : Passed). w.apex) s) ∙ a,
  sym (ap (λ (w : Passed). w.rest) s) ∙ r,
  sym (append-nil out) ∙ (sym (ap (λ (w : Passed). out ++ w.out) s) ∙ o),
)

pub along_stop :
    (in-of : ℕ → ℕ → Bool) (x : Point) (out : List Point) (p c : Point) (chain cs before : List Point) (all : Passed)
    → Along in-of x out p chain before all → chain ≡ c ∷ cs → false ≡ inward in-of p x c → Stopped out p chain before all
along_stop in-of x out p c chain cs before all k e h =
    at_rest in-of x out p chain before all k
    (ap (λ (w : List Point). pass in-of x p w) e ∙ (pass_stop in-of x p c cs (sym h) ∙ ap (λ (w : List Point). record { out = []; apex = p; rest = w }) (sym e)))

pub along_end :
    (in-of : ℕ → ℕ → Bool) (x : Point) (out : List Point) (p : Point) (chain before : List Point) (all : Passed)
    → Along in-of x out p chain before all → chain ≡ [] → Stopped out p chain before all
along_end in-of x out p chain before all k e =
    at_rest in-of x out p chain before all k
    (ap (λ (w : List Point). pass in-of x p w) e ∙ (pass_end in-of x p ∙ ap (λ (w : List Point). record { out = []; apex = p; rest = w }) (sym e)))
