use Rattle.std.proofs.Common.{◌≡◌, ℕ, [], ◌∷◌, Some, sym, refl, ◌∙◌}
use Rattle.std.proofs.lemmas.Bool.{or_right, not_from_false, ne_eqb}
use Rattle.refusal.specs.Refusals.{told, first_of}
use Rattle.refusal.proofs.Lines.{first_hit}
use Rattle.book.specs.Calls.{State, slip_line}
use Rattle.book.specs.Books.{state}
use Rattle.book.specs.Calls.Call.{takes, releases}
use Rattle.book.proofs.Entering.{take_stopped, release_stopped}
use Rattle.replay.proofs.Calls.{number_stays}
use Rattle.replay.proofs.slips.Way.bring.Goals as goal

-- a slip of another number is refused
foreign : (s : State) (n : ℕ) → (n ≡ s.number → ⊥) → first_of (slip_line s n ∷ []) ≡ Some (told 15 0)
foreign s n h = first_hit (slip_line s n) [] (or_right _ _ (not_from_false _ (ne_eqb _ _ h)))

pub returns-in-Take-clause-number : goal.returns-in-Take-clause-number
returns-in-Take-clause-number c = number_stays _ _ (takes c.args.slip.book) c.take.ensures.state

pub returns-in-Take-clause-foreign : goal.returns-in-Take-clause-foreign
returns-in-Take-clause-foreign c h = c.take.ensures.state ∙ sym (take_stopped (state c.args.book.now) (state c.args.book.now) c.args.slip.book refl (foreign (state c.args.book.now) c.args.slip.book h)).becoming

pub returns-in-Release-clause-number : goal.returns-in-Release-clause-number
returns-in-Release-clause-number c = number_stays _ _ (releases c.args.slip.book) c.release.ensures.state

pub returns-in-Release-clause-foreign : goal.returns-in-Release-clause-foreign
returns-in-Release-clause-foreign c h = c.release.ensures.state ∙ sym (release_stopped (state c.args.book.now) (state c.args.book.now) c.args.slip.book refl (foreign (state c.args.book.now) c.args.slip.book h)).becoming
