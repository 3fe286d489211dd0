-- A table of refusals gives none exactly when none of its conditions holds.
use Rattle.std.proofs.Common.{◌≡◌, Bool, true, false, cond, ◌⊎◌, List, ◌∷◌, is_some, Some, None, Option, refl, inl, inr}
use Rattle.std.proofs.lemmas.Bool.{true≢false, cond-true, cond-false}
use Rattle.refusal.specs.Refusals.{Told, told, Line, first_of}

clear : (b : Bool) (t : Told) (o : Option Told) → is_some (cond b (Some t) o) ≡ false → (b ≡ false) × (is_some o ≡ false)
clear true t o e = absurd (true≢false e)
clear false t o e = (refl, e)

-- no refusal: the first line does not hold, and the others give none
pub first_clear : (l : Line) (ls : List Line) → is_some (first_of (l ∷ ls)) ≡ false → (l.holds ≡ false) × (is_some (first_of ls) ≡ false)
first_clear l ls e = clear l.holds (told l.number l.detail) (first_of ls) e

-- a line that does not hold is passed over
pub first_pass : (l : Line) (ls : List Line) → l.holds ≡ false → first_of (l ∷ ls) ≡ first_of ls
first_pass l ls e = cond-false l.holds (Some (told l.number l.detail)) (first_of ls) e

-- a line that holds is given
pub first_hit : (l : Line) (ls : List Line) → l.holds ≡ true → first_of (l ∷ ls) ≡ Some (told l.number l.detail)
first_hit l ls e = cond-true l.holds (Some (told l.number l.detail)) (first_of ls) e

-- a table gives none, or something
pub none_or_some : (o : Option Told) → (o ≡ None) ⊎ ((t : Told) × (o ≡ Some t))
none_or_some None = inl refl
none_or_some (Some t) = inr (t, refl)
