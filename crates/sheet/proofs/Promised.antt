-- The laws of sheets as they hold of an answer and of the buffer after it.
use Rattle.std.proofs.Common.{◌≡◌, ℕ, true, ◌⊎◌, List, length, Some, None, Ok, Err, Option, Result, ap, ◌∙◌, inl, inr, arith}
use Rattle.print.specs.Texts.{plan_text}
use Rattle.refusal.proofs.Lines.{none_or_some}
use Rattle.refusal.specs.Refusals.{Told, first_of}
use Rattle.sheet.specs.Answers.{drawn_text, fault_reply, length_unless, filled_unless, sheet_answer, sheet_filled}
use Rattle.sheet.specs.Laws.{ReadsBack, IsPrinted}
use Rattle.sheet.specs.Sheets.{Sheet, sheet_table, said}
use Rattle.sheet.specs.declared.fault.Fault.{Fault}
use Rattle.sheet.proofs.Exactness.{accepted_exact}
use Rattle.sheet.proofs.Printing.{printed_back}

reply_ok : (a : Result ℕ Fault) (n : ℕ) → fault_reply a ≡ Ok n → a ≡ Ok n
reply_ok (Ok m) n e = let f : m ≡ n = cc in ap (λ (x : ℕ). Ok x) f
reply_ok (Err y) n e = let z : ◌≡◌ {A = ℕ} 0 1 = cc in absurd (omega arith)

pub reads_back : (sheet entry exit : List ℕ) (a : Result ℕ Fault) → fault_reply a ≡ sheet_answer (length entry) sheet → exit ≡ sheet_filled sheet entry → ReadsBack sheet entry exit a
reads_back sheet entry exit a ea eb steps jobs p l e =
    let b = printed_back (length entry) steps jobs p l in
    let none : first_of (sheet_table (length entry) sheet) ≡ None = ap (λ (xs : List ℕ). first_of (sheet_table (length entry) xs)) e ∙ b.0 in
    let says : said sheet ≡ record { steps = steps; jobs = jobs; drawn = true } = ap said e ∙ b.1 in
    let text : drawn_text sheet ≡ plan_text steps jobs = ap (λ (x : Sheet). plan_text x.steps x.jobs) says in (
      reply_ok a (length (plan_text steps jobs)) (ea ∙ ap (λ (o : Option Told). length_unless o (drawn_text sheet)) none ∙ ap (λ (xs : List ℕ). length_unless None xs) text),
      eb ∙ ap (λ (o : Option Told). filled_unless o (drawn_text sheet) entry) none ∙ ap (λ (xs : List ℕ). filled_unless None xs entry) text,
    )

pub is_printed : (size : ℕ) (sheet : List ℕ) (a : Result ℕ Fault) → fault_reply a ≡ sheet_answer size sheet → IsPrinted sheet a
is_printed size sheet (Err y) e = tt
is_printed size sheet (Ok n) e = accepted_exact size sheet (by (none_or_some (first_of (sheet_table size sheet))))
  where
    by : (first_of (sheet_table size sheet) ≡ None) ⊎ ((t : Told) × (first_of (sheet_table size sheet) ≡ Some t)) → first_of (sheet_table size sheet) ≡ None
    by (inl z) = z
    by (inr t) =
        let f : Ok n ≡ Err t.0 = e ∙ ap (λ (o : Option Told). length_unless o (drawn_text sheet)) t.1 in
        let z : ◌≡◌ {A = ℕ} 0 1 = cc in
        absurd (omega arith)
