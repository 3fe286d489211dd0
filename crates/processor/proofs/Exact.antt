-- A ladder's maker that answers by the table takes exactly the lawful lists.
use Rattle.std.proofs.Common.{◌≡◌, ℕ, ◌≤◌, true, false, List, length, take, is_some, is_ok, None, Ok, Err, Option, Result, sym, refl, ap, ◌∙◌, subst, arith}
use Rattle.std.proofs.lemmas.List.{length-take-le}
use Rattle.std.proofs.lemmas.Bool.{true≢false, false≢true}
use Rattle.model.specs.Steps.{Lawful}
use Rattle.model.specs.declared.step.Step.{Step}
use Rattle.refusal.specs.Refusals.{Told, outcome, first_of}
use Rattle.refusal.specs.declared.refusal.Refusal.{Refusal}
use Rattle.processor.specs.Rules.{step_lines}
use Rattle.processor.specs.Tried.{lawful_from, passes_from}
use Rattle.processor.specs.Held.{ladder_lawful}

untold : {X : Type 0} (r : Result X Refusal) (o : Option Told) → outcome r ≡ o → is_ok r ≡ true → is_some o ≡ false
untold (Ok x) o e k = ap (λ (p : Option Told). is_some p) (sym e)
untold (Err x) o e k = absurd (false≢true k)

accepted : {X : Type 0} (r : Result X Refusal) → outcome r ≡ None → is_ok r ≡ true
accepted (Ok x) e = refl
accepted (Err x) e = absurd (true≢false (ap (λ (p : Option Told). is_some p) e))

-- the maker of the ladder of all the steps of a list
pub exact : {X : Type 0} (r : Result X Refusal) (s : List Step) → outcome r ≡ first_of (step_lines s (length s)) → (is_ok r ≡ true → Lawful s) × (Lawful s → is_ok r ≡ true)
exact r s h = (λ k. lawful_from s (untold r (first_of (step_lines s (length s))) h k), λ k. accepted r (h ∙ passes_from s k))

-- and of the first of them
abbrev pub Exact : {X : Type 0} → Result X Refusal → List Step → ℕ → Type 0
Exact r s count = (is_ok r ≡ true → Lawful (take count s)) × (count ≤ 16 → Lawful (take count s) → is_ok r ≡ true)

pub exactly : {X : Type 0} (r : Result X Refusal) (s : List Step) (count : ℕ) → length s ≡ 16 → outcome r ≡ first_of (step_lines (take count s) count) → Exact r s count
exactly r s count e h = (
  λ k. ladder_lawful s count e (untold r (first_of (step_lines (take count s) count)) h k),
  λ l k.
      let n : length (take count s) ≡ count = length-take-le count s (omega arith) in
      accepted r (h ∙ subst (λ (m : ℕ). first_of (step_lines (take count s) m) ≡ None) n (passes_from (take count s) k)),
)
