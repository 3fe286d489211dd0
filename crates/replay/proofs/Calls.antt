-- Every call leaves a book its number.
use Rattle.std.proofs.Common.{◌≡◌, inl, inr, refl, ap, ◌∙◌}
use Rattle.refusal.specs.Refusals.{first_of}
use Rattle.refusal.proofs.Lines.{none_or_some}
use Rattle.book.specs.Calls.{State, Call, lines, becomes, after}
use Rattle.book.specs.Calls.Call.{enters, holds, takes, releases, strikes, plans, closes}
use Rattle.book.proofs.Steps.{after_refused, after_accepted}

becomes_number : (s : State) (c : Call) → (becomes s c).number ≡ s.number
unfolding becomes
becomes_number s (enters j) = refl
becomes_number s (holds j steps) = refl
becomes_number s (takes n) = refl
becomes_number s (releases n) = refl
becomes_number s strikes = refl
becomes_number s (plans steps buffer) = refl
becomes_number s (closes steps) = refl

-- every call leaves a book its number
pub after_number : (s : State) (c : Call) → (after s c).number ≡ s.number
after_number s c =
    elim (none_or_some (first_of (lines s c))) [
      | inl e ↦ ap (λ (x : State). x.number) (after_accepted s c e) ∙ becomes_number s c
      | inr (t, e) ↦ ap (λ (x : State). x.number) (after_refused s c t e)
    ]

-- and so the book that a call led to
pub number_stays : (s t : State) (c : Call) → t ≡ after s c → t.number ≡ s.number
number_stays s t c e = ap (λ (x : State). x.number) e ∙ after_number s c
