-- What the plan program prints: a plan that was drawn, or the refused line.
use Rattle.std.proofs.Common.{◌≡◌, ℕ, ◌<◌, Bool, true, false, cond, ltb, List, [], ◌∷◌, ◌++◌, length, drop, is_ok, IfOk, Some, None, Ok, Err, Option, Result, sym, refl, ap, ◌∙◌, subst, arith}
use Rattle.std.specs.Result.{result_unwrap_or as unwrap_or}
use Rattle.std.proofs.lemmas.List.{length-append, length-drop}
use Rattle.std.proofs.lemmas.Bool.{ltb-true, ltb-false}
use Rattle.print.proofs.Lengths.{energy_length, refused_length}
use Rattle.print.specs.Texts.{segments_text, energy_text, plan_text, refused_text}
use Rattle.model.specs.Charges.{cost}
use Rattle.model.specs.Plan.{plan}
use Rattle.refusal.specs.Refusals.{Told, told, told_of, line, first_of, outcome}
use Rattle.refusal.specs.declared.refusal.Refusal.{Refusal}
use Rattle.sheet.specs.Answers.{drawn_text, length_unless, filled_unless, sheet_answer, text_or, printed, fitting, Prints}
use Rattle.sheet.specs.Sheets.{sheet_table, said}

-- a text written where it has room
pub drawn_fits : (size n : ℕ) (sheet entry exit : List ℕ) → size ≡ length entry → Ok n ≡ sheet_answer size sheet → exit ≡ filled_unless (first_of (sheet_table size sheet)) (drawn_text sheet) entry → length exit ≡ length entry
    → fitting (printed size sheet) entry exit (Ok n)
unfolding printed
drawn_fits size n sheet entry exit z a b k = by (first_of (sheet_table size sheet)) a b
  where
    by : (o : Option Told) → Ok n ≡ length_unless o (drawn_text sheet) → exit ≡ filled_unless o (drawn_text sheet) entry → fitting (text_or o (drawn_text sheet)) entry exit (Ok n)
    by (Some t) a b = let q : ◌≡◌ {A = ℕ} 0 1 = cc in absurd (omega arith)
    by None a b =
        let m : n ≡ length (drawn_text sheet) = cc in
        let l = ap length b ∙ length-append (drawn_text sheet) (drop (length (drawn_text sheet)) entry) in
        let d = length-drop (length (drawn_text sheet)) entry in
        (omega arith, m, b)

-- a refused sheet leaves the buffer, and what is printed is the refused line
pub refused_printed : (size : ℕ) (sheet entry exit : List ℕ) (t : Told) → Err t ≡ sheet_answer size sheet → exit ≡ filled_unless (first_of (sheet_table size sheet)) (drawn_text sheet) entry
    → (printed size sheet ≡ refused_text t) × (exit ≡ entry)
unfolding printed
refused_printed size sheet entry exit t a b = by (first_of (sheet_table size sheet)) a b
  where
    by : (o : Option Told) → Err t ≡ length_unless o (drawn_text sheet) → exit ≡ filled_unless o (drawn_text sheet) entry → (text_or o (drawn_text sheet) ≡ refused_text t) × (exit ≡ entry)
    by (Some u) a b = let e : t ≡ u = cc in (ap refused_text (sym e), b)
    by None a b = let q : ◌≡◌ {A = ℕ} 0 1 = cc in absurd (omega arith)

-- the line written where it has room
pub line_fits : (text entry exit : List ℕ) (r : Result ℕ Refusal) → outcome r ≡ first_of (line (ltb (length entry) (length text)) 24 (length text) ∷ []) → IfOk r (λ n. n ≡ length text)
    → exit ≡ cond (is_ok r) (text ++ drop (length text) entry) entry → fitting text entry exit r
line_fits text entry exit (Ok n) a m b = (ltb-false _ _ (clear (ltb (length entry) (length text)) a), m, b)
  where
    clear : (c : Bool) → None ≡ cond c (Some (told 24 (length text))) None → c ≡ false
    clear false e = refl
    clear true e = let q : ◌≡◌ {A = ℕ} 0 1 = cc in absurd (omega arith)
line_fits text entry exit (Err e) a m b = let h = hit (ltb (length entry) (length text)) a in (ltb-true _ _ h.0, h.1, b)
  where
    hit : (c : Bool) → Some (told_of e) ≡ cond c (Some (told 24 (length text))) None → (c ≡ true) × (told_of e ≡ told 24 (length text))
    hit false q = let z : ◌≡◌ {A = ℕ} 0 1 = cc in absurd (omega arith)
    hit true q = (refl, cc)

pub fitting_same : (text other entry start exit : List ℕ) (r : Result ℕ Refusal) → other ≡ text → start ≡ entry → fitting text start exit r → fitting other entry exit r
fitting_same text other entry start exit r e f h =
    subst (λ (xs : List ℕ). fitting xs entry exit r) (sym e) (subst (λ (xs : List ℕ). fitting text xs exit r) f h)

-- what is printed is never nothing
printed_some : (size : ℕ) (sheet : List ℕ) → 0 < length (printed size sheet)
unfolding printed plan_text
printed_some size sheet = by (first_of (sheet_table size sheet))
  where
    by : (o : Option Told) → 0 < length (text_or o (drawn_text sheet))
    by (Some t) = let h = refused_length t.number t.detail in omega arith
    by None =
        let e = cost (said sheet).steps (said sheet).jobs in
        let h = energy_length e in
        let a = length-append (segments_text (plan (said sheet).steps (said sheet).jobs)) (energy_text e) in
        omega arith

pub prints : (size n : ℕ) (sheet entry exit : List ℕ) → fitting (printed size sheet) entry exit (Ok n) → Prints (printed size sheet) entry exit n
prints size n sheet entry exit f =
    let s = printed_some size sheet in
    let m = f.1 in
    record { nothing = λ z. absurd (omega arith); something = λ _. (m, f.2) }

-- and so what is answered in all
pub prints_or : (size n : ℕ) (sheet entry exit : List ℕ) (r : Result ℕ Refusal) → fitting (printed size sheet) entry exit r → n ≡ unwrap_or r 0 → Prints (printed size sheet) entry exit n
prints_or size n sheet entry exit (Ok m) f e = subst (λ (k : ℕ). Prints (printed size sheet) entry exit k) (sym e) (prints size m sheet entry exit f)
prints_or size n sheet entry exit (Err y) f e = record { nothing = λ z. f.2; something = λ l. absurd (omega arith) }
