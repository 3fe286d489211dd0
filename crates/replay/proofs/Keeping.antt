-- A slip that can be spent stays so while its book stays the same.
use Rattle.std.proofs.Common.{◌≡◌, true, is_some, Some, None, Option, sym, refl, subst, eq-eqb}
use Rattle.std.proofs.lemmas.Bool.{and_parts, and_from}
use Rattle.book.specs.Calls.{State}
use Rattle.book.specs.declared.slip.Slip.{Slip}
use Rattle.replay.specs.Keeping.{fits}

-- where a slip can be spent, the hold is open
pub open_where_kept : (s : State) (x : Slip) → fits s (Some x) ≡ true → is_some s.held ≡ true
open_where_kept s x e = (and_parts _ _ e).0

-- a slip still fits a book that stays the same while its hold is open
pub fits_on : (s t : State) (o : Option Slip) → fits s o ≡ true → (is_some s.held ≡ true → t ≡ s) → fits t o ≡ true
fits_on s t None e h = refl
fits_on s t (Some x) e h = subst (λ (u : State). fits u (Some x) ≡ true) (sym (h (open_where_kept s x e))) e

-- the slip of a new hold fits
pub fits_new : (s : State) (x : Slip) → (x.book ≡ s.number) × (is_some s.held ≡ true) → fits s (Some x) ≡ true
fits_new s x (e, h) = and_from _ _ h (eq-eqb _ _ e)
