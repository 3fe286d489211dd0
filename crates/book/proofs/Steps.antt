-- One call: its answer and the book after it, by whether its table refuses it.
use Rattle.std.proofs.Common.{◌≡◌, List, [], ◌∷◌, ◌++◌, Some, None, Option, refl, ap}
use Rattle.refusal.specs.Refusals.{Told, first_of}
use Rattle.book.specs.Calls.{State, Call, Answer, lines, accepts, becomes, answer, after, run_from}
use Rattle.book.specs.Calls.Answer.{refused}

pub answer_refused : (s : State) (c : Call) (t : Told) → first_of (lines s c) ≡ Some t → answer s c ≡ refused t
unfolding answer
answer_refused s c t e = ap (λ (o : Option Told). elim o as (λ _. Answer) [ Some u ↦ refused u | None ↦ accepts s c ]) e

pub answer_accepted : (s : State) (c : Call) → first_of (lines s c) ≡ None → answer s c ≡ accepts s c
unfolding answer
answer_accepted s c e = ap (λ (o : Option Told). elim o as (λ _. Answer) [ Some u ↦ refused u | None ↦ accepts s c ]) e

pub after_refused : (s : State) (c : Call) (t : Told) → first_of (lines s c) ≡ Some t → after s c ≡ s
unfolding after
after_refused s c t e = ap (λ (o : Option Told). elim o as (λ _. State) [ Some u ↦ s | None ↦ becomes s c ]) e

pub after_accepted : (s : State) (c : Call) → first_of (lines s c) ≡ None → after s c ≡ becomes s c
unfolding after
after_accepted s c e = ap (λ (o : Option Told). elim o as (λ _. State) [ Some u ↦ s | None ↦ becomes s c ]) e

-- one call more at the end of a list
pub run_push : (s : State) (h : List Call) (c : Call) → run_from s (h ++ (c ∷ [])) ≡ after (run_from s h) c
unfolding run_from
run_push s [] c = refl
run_push s (d ∷ h) c = run_push (after s d) h c
