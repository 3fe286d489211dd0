use Rattle.std.proofs.Common.{◌≡◌, ℕ, List, get_or, refl, ap, ◌∙◌, arith}
use Rattle.model.specs.Sums.{sum_to}
use Rattle.charges.specs.Rows.{rows_of}
use Rattle.book.specs.Calls.{charged}
use Rattle.book.proofs.Totals.{charged_new}
use Rattle.book.proofs.book.Book.new.Goals as goal

nothing_charged : (xs : List ℕ) → xs ≡ lib.ListN.replicate 65 0 → sum_to 65 (λ a. get_or xs a 0) ≡ 0
unfolding charged
nothing_charged xs e = ap (λ (ys : List ℕ). sum_to 65 (λ a. get_or ys a 0)) e ∙ charged_new 0

pub invariant_of-result : goal.invariant_of-result
invariant_of-result c = record { waits = refl; within = omega (arith, nothing_charged (rows_of c.new-charges.result) c.new-charges.ensures) }
