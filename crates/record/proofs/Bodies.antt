-- All that follows the kind: the number of segments, and then the segments.
use Rattle.std.proofs.Common.{◌≡◌, ℕ, ◌<◌, ◌≤◌, List, Result, sym, ap, ◌∙◌, subst, arith}
use Rattle.refusal.specs.Refusals.{Told, told_of}
use Rattle.refusal.specs.declared.refusal.Refusal.{Refusal}
use Rattle.std.specs.Result.{IsErrAnd}
use Rattle.std.proofs.lemmas.Result.{err_from_is_err_and}
use Rattle.std.proofs.lemmas.Bool.Decides.{nat_tests}
use Rattle.record.specs.Checks.{Checks}
use Rattle.record.specs.Got.{Got, got, refused, refuse, after}
use Rattle.record.specs.Numbers.{read_number}
use Rattle.record.specs.Reading.{read_body, with_count, read_segments}
use Rattle.record.specs.declared.check.Passed.{Passed}

pub no_count : (steps room : ℕ) (bytes : List ℕ) (t : Told) → refused t ≡ read_number bytes → read_body steps room bytes ≡ refused t
unfolding read_body
no_count steps room bytes t e = ap (λ (g : Got ℕ). after g (with_count steps room)) (sym e)

counted_by : (steps room n : ℕ) (bytes rest : List ℕ) → got n rest ≡ read_number bytes → read_body steps room bytes ≡ with_count steps room n rest
unfolding read_body
counted_by steps room n bytes rest e = ap (λ (g : Got ℕ). after g (with_count steps room)) (sym e)

pub too_many : (steps room n : ℕ) (bytes rest : List ℕ) → got n rest ≡ read_number bytes → 1024 < n → read_body steps room bytes ≡ refuse 20
unfolding with_count
too_many steps room n bytes rest e l =
    let h = counted_by steps room n bytes rest e in grind (arith, nat_tests)

pub no_room : (steps room n : ℕ) (bytes rest : List ℕ) → got n rest ≡ read_number bytes → n ≤ 1024 → room < n → read_body steps room bytes ≡ refuse 18
unfolding with_count
no_room steps room n bytes rest e l h =
    let c = counted_by steps room n bytes rest e in grind (arith, nat_tests)

pub to_segments : (steps room n : ℕ) (bytes rest : List ℕ) → got n rest ≡ read_number bytes → n ≤ 1024 → n ≤ room → read_body steps room bytes ≡ read_segments n steps steps 0 rest
unfolding with_count
to_segments steps room n bytes rest e l h =
    let c = counted_by steps room n bytes rest e in grind (arith, nat_tests)

-- the check's answer where a call inside was refused
pub checks_err : (bytes : List ℕ) (steps room tick : ℕ) (e : Refusal) (r : Result Passed Refusal) → IsErrAnd r (λ y. y ≡ e) → read_body steps room bytes ≡ refused (told_of e)
    → Checks bytes steps room tick r
checks_err bytes steps room tick e r h b =
    let y = err_from_is_err_and r h in
    subst (λ (x : Result Passed Refusal). Checks bytes steps room tick x) (sym y.1) (b ∙ ap (λ (x : Refusal). refused (told_of x)) (sym y.2))
