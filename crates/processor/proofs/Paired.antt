-- Two arrays paired place by place.
use Rattle.std.proofs.Common.{◌≡◌, ℕ, zero, suc, ◌+◌, ◌<◌, ◌≤◌, List, [], ◌∷◌, length, get_or, refl, subst, ◌∙◌, inl, inr, ap₂, arith}
use Rattle.std.proofs.lemmas.Bool.{cases_lt}
use Rattle.std.specs.Fn.{Called}
use Rattle.std.specs.Array.{IsFromFnResultFrom, IsFromFnResult}
use denote.Param.Members.{Mut}
use Rattle.model.specs.Steps.{no_step}
use Rattle.model.specs.declared.step.Step.{Step}
use Rattle.processor.specs.Rules.{paired}

-- a list of steps that has the speed and the power of each place is the paired list
pub paired_is :
    (steps : List Step) (vs ps : List ℕ) → length steps ≡ length vs → length ps ≡ length vs
    → ((k : ℕ) → k < length vs → get_or steps k no_step ≡ record { speed = get_or vs k 0; power = get_or ps k 0 })
    → steps ≡ paired vs ps
paired_is [] [] ps e d h = refl
paired_is [] (v ∷ vs) ps e d h = absurd (omega (arith, e))
paired_is (s ∷ ss) [] ps e d h = absurd (omega (arith, e))
paired_is (s ∷ ss) (v ∷ vs) [] e d h = absurd (omega (arith, d))
paired_is (s ∷ ss) (v ∷ vs) (p ∷ ps) e d h =
    ap₂ (λ (x : Step) (xs : List Step). x ∷ xs) (h 0 (omega arith)) (paired_is ss vs ps (omega (arith, e)) (omega (arith, d)) (λ k l. h (suc k) (omega arith)))

-- what an array holds that a function has made, which gives h i at place i and keeps nothing between its calls
module _ {F B : Type 0} (g : Mut F (ℕ × Unit {0}) B) (f : F) (ys : List B) (h : ℕ → B)
    (gives : (i : ℕ) (y : B) (q : F) → Called g f (i, tt) y q → (q ≡ f) × (y ≡ h i)) where
  made_from : (i n k : ℕ) (d : B) → IsFromFnResultFrom g f ys i n → i ≤ k → k < i + n → get_or ys k d ≡ h k
  made_from i zero k d m a b = absurd (omega arith)
  made_from i (suc n) k d (q, y, at, call, rest) a b =
      let (same, value) = gives i y q call in
      elim (cases_lt i k) [
        | inl l ↦ made_from (i + 1) n k d (subst (λ (p : F). IsFromFnResultFrom g p ys (i + 1) n) same rest) (omega arith) (omega arith)
        | inr l ↦ let e : i ≡ k = omega arith in
            subst (λ (j : ℕ). get_or ys j d ≡ h j) e (at.1 d ∙ value)
      ]

  pub made : (n : ℕ) → IsFromFnResult g f ys n → (k : ℕ) (d : B) → k < n → get_or ys k d ≡ h k
  made n m k d l = made_from 0 n k d m.each (omega arith) (omega arith)
