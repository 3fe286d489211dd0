-- What the search from the back leaves, with the new point written behind it, is the tightened chain.
use Rattle.std.proofs.Common.{◌≡◌, ℕ, suc, ◌+◌, ◌-◌, ◌<◌, ◌≤◌, Bool, true, false, List, [], ◌∷◌, ◌++◌, length, get_or, take, set, sym, ap, ◌∙◌, arith}
use Rattle.std.proofs.lemmas.List.{take_more_set, take-take, length-take-le}
use Rattle.model.specs.Path.{start}
use Rattle.model.specs.declared.point.Point.{Point}
use Rattle.theory.specs.Sweep.{inner, inward, tighten}
use Rattle.theory.proofs.Tight.{tighten_take}
use Rattle.sweep.specs.Ready.{Ready}
use Rattle.sweep.specs.Views.{older}

pub tightened :
    (up : Bool) (p : Point) (chain : List Point) (k : ℕ) (x : Point) → 0 < length chain → Ready up p (older chain) x → k ≤ length (older chain)
    → ((i : ℕ) → k ≡ suc i → inward (inner up) (get_or (p ∷ older chain) i start) (get_or (older chain) i start) x ≡ true)
    → (k < length (older chain) → inward (inner up) (get_or (p ∷ older chain) k start) (get_or (older chain) k start) x ≡ false)
    → take (k + 1) (set chain k x) ≡ tighten (inner up) p (older chain) x
tightened up p chain k x m (n, l, b) w s g =
    let e : length (older chain) ≡ length chain - 1 = length-take-le (length chain - 1) chain (omega arith) in
    take_more_set chain k x (omega arith)
    ∙ (ap (λ (ys : List Point). ys ++ (x ∷ [])) (sym (take-take k (length chain - 1) chain (omega arith)))
    ∙ sym (tighten_take up n p (older chain) x start k l b w s g))
