-- What is written of a page on which the plan is drawn.
use Rattle.std.proofs.Common.{◌≡◌, ℕ, ◌<◌, ◌≤◌, ltb, List, ◌∷◌, length, Some, None, Ok, Err, Option, sym, ap, ◌∙◌}
use Rattle.frame.proofs.Laid.{laid_first}
use Rattle.frame.specs.Laid.{laid}
use Rattle.std.proofs.lemmas.Bool.{lt-ltb, le-ltb}
use Rattle.model.specs.Charges.{cost}
use Rattle.model.specs.Plan.{plan}
use Rattle.model.specs.declared.segment.Segment.{Segment}
use Rattle.print.specs.Texts.{text_of, plan_text}
use Rattle.refusal.proofs.Lines.{first_pass, first_hit}
use Rattle.refusal.specs.Refusals.{Told, told, line, first_of}
use Rattle.grammar.specs.Pieces.{lines}
use Rattle.sheet.specs.Answers.{drawn_text, length_unless, filled_unless}
use Rattle.sheet.specs.Sheets.{Sheet, blank, lines_table, sheet_table, said}
use Rattle.sheet.proofs.Exactness.{lines_exact}
use Rattle.sheet.proofs.Fits.{text_fits}

-- the text that is written is the plan's
pub text_drawn : (s : Sheet) (sheet : List ℕ) (xs : List Segment) (e : ℕ) → xs ≡ plan s.steps s.jobs → e ≡ cost s.steps s.jobs → s ≡ said sheet → text_of xs e ≡ drawn_text sheet
unfolding plan_text
text_drawn s sheet xs e f g h =
    ap (λ (ys : List Segment). text_of ys e) f ∙ ap (λ (n : ℕ). text_of (plan s.steps s.jobs) n) g ∙ ap (λ (x : Sheet). plan_text x.steps x.jobs) h

-- and has room
pub text_short : (sheet : List ℕ) → first_of (lines_table 1 blank (lines sheet)) ≡ None → length (drawn_text sheet) ≤ 14364
unfolding plan_text
text_short sheet e =
    let p = (lines_exact sheet e).0 in
    text_fits (said sheet).steps (said sheet).jobs p.lawful p.stands p.few p.able

-- what the answer and the buffer are where a table gives nothing, and where it gives a refusal
pub answer_none : (o : Option Told) (n : ℕ) (text : List ℕ) → None ≡ o → n ≡ length text → Ok n ≡ length_unless o text
answer_none o n text e l = ap (λ (m : ℕ). Ok m) l ∙ ap (λ (x : Option Told). length_unless x text) e

pub answer_some : (o : Option Told) (t : Told) (text : List ℕ) → Some t ≡ o → Err t ≡ length_unless o text
answer_some o t text e = ap (λ (x : Option Told). length_unless x text) e

pub filled_none : (o : Option Told) (text other buffer now : List ℕ) → None ≡ o → other ≡ text → now ≡ laid 0 other buffer → now ≡ filled_unless o text buffer
filled_none o text other buffer now e t l =
    l ∙ ap (λ (xs : List ℕ). laid 0 xs buffer) t ∙ laid_first text buffer ∙ ap (λ (x : Option Told). filled_unless x text buffer) e

pub filled_some : (o : Option Told) (t : Told) (text buffer : List ℕ) → Some t ≡ o → buffer ≡ filled_unless o text buffer
filled_some o t text buffer e = ap (λ (x : Option Told). filled_unless x text buffer) e

-- the table of a sheet: too many bytes, too little room, and then its lines
pub too_many : (size : ℕ) (sheet : List ℕ) → 32768 < length sheet → Some (told 33 0) ≡ first_of (sheet_table size sheet)
unfolding sheet_table
too_many size sheet l =
    sym (first_hit (line (ltb 32768 (length sheet)) 33 0) (line (ltb size 16384) 24 0 ∷ lines_table 1 blank (lines sheet)) (lt-ltb 32768 (length sheet) l))

pub too_small : (size : ℕ) (sheet : List ℕ) → length sheet ≤ 32768 → size < 16384 → Some (told 24 0) ≡ first_of (sheet_table size sheet)
unfolding sheet_table
too_small size sheet m l =
    sym
    (first_pass (line (ltb 32768 (length sheet)) 33 0) (line (ltb size 16384) 24 0 ∷ lines_table 1 blank (lines sheet)) (le-ltb 32768 (length sheet) m)
    ∙ first_hit (line (ltb size 16384) 24 0) (lines_table 1 blank (lines sheet)) (lt-ltb size 16384 l))

pub by_lines : (size : ℕ) (sheet : List ℕ) → length sheet ≤ 32768 → 16384 ≤ size → first_of (lines_table 1 blank (lines sheet)) ≡ first_of (sheet_table size sheet)
unfolding sheet_table
by_lines size sheet m l =
    sym
    (first_pass (line (ltb 32768 (length sheet)) 33 0) (line (ltb size 16384) 24 0 ∷ lines_table 1 blank (lines sheet)) (le-ltb 32768 (length sheet) m)
    ∙ first_pass (line (ltb size 16384) 24 0) (lines_table 1 blank (lines sheet)) (le-ltb size 16384 l))
