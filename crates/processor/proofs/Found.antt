-- What a search among the numbers below n finds.
use Rattle.std.proofs.Common.{◌≡◌, ℕ, ◌<◌, ◌≤◌, Bool, true, false, cond, ltb, Some, None, Option, sym, ap, ◌∙◌, arith}
use Rattle.std.specs.Option.{MatchOption}
use Rattle.std.proofs.lemmas.Bool.{cond-true, cond-false, lt-ltb, le-ltb}
use Rattle.model.specs.Sums.{first_below}
use Rattle.model.proofs.First.{first_here, first_all}

-- the first number that passes the test, where there is one
pub found :
    (n : ℕ) (f : ℕ → Bool) (r : Option ℕ)
    → MatchOption r ((k : ℕ) → 0 ≤ k → k < n → false ≡ f k) (λ i. (0 ≤ i) × (i < n) × (true ≡ f i) × ((k : ℕ) → 0 ≤ k → k < i → false ≡ f k))
    → r ≡ cond (ltb (first_below n f) n) (Some (first_below n f)) None
found n f None h =
    let e = first_all n f (λ k l. sym (h k (omega arith) l)) in
    sym (cond-false (ltb (first_below n f) n) _ _ (le-ltb _ _ (omega arith)))
found n f (Some i) h =
    let e : first_below n f ≡ i = first_here n i f (first_all i f (λ k l. sym (h.3 k (omega arith) l))) (sym h.2) h.1 in
    sym (cond-true (ltb (first_below n f) n) _ _ (lt-ltb _ _ (omega (arith, h.1))) ∙ ap Some e)
