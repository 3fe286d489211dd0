-- What is answered where a call inside was refused.
use Rattle.std.proofs.Common.{◌≡◌, Err, Result, ap, ◌∙◌}
use Rattle.std.specs.Result.{IsErrAnd}
use Rattle.std.proofs.lemmas.Result.{err_from_is_err_and}
use Rattle.refusal.specs.declared.refusal.Refusal.{Refusal}

-- what is made of the answer is made of the refusal inside
pub refused_as : {X Y : Type 0} (f : Result X Refusal → Y) (e : Refusal) (r : Result X Refusal) → IsErrAnd r (λ y. y ≡ e) → f r ≡ f (Err e)
refused_as f e r h =
    let y = err_from_is_err_and r h in
    ap f y.1 ∙ ap (λ (x : Refusal). f (Err x)) y.2
