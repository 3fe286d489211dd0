-- Lines one by one: the table of a sheet after some of its lines, and what they say.
use Rattle.std.proofs.Common.{◌≡◌, ℕ, suc, ◌+◌, ◌<◌, ◌≤◌, ltb, List, [], ◌∷◌, ◌++◌, length, Some, None, Option, sym, refl, ap, ◌∙◌, subst, arith}
use Rattle.std.proofs.lemmas.List.{nil_from_length}
use Rattle.std.proofs.lemmas.Bool.{lt-ltb, le-ltb}
use Rattle.refusal.proofs.Lines.{first_pass, first_hit}
use Rattle.refusal.specs.Refusals.{Told, told, line, first_of}
use Rattle.book.proofs.Promises.{hit_front, pass_longer}
use Rattle.grammar.proofs.Parting.{pieces_some}
use Rattle.grammar.proofs.Saying.{found, empty_line}
use Rattle.grammar.specs.Pieces.{lines, line_feed}
use Rattle.grammar.specs.Rows.{row_of}
use Rattle.grammar.specs.declared.row.Row.{Row}
use Rattle.sheet.specs.Sheets.{Sheet, blank, with_said, said_table, line_table, end_table, lines_table, said_by, said}

-- a line that is too long, and one that is not
pub line_long : (n : ℕ) (s : Sheet) (text : List ℕ) → 63 < length text → Some (told 31 n) ≡ first_of (line_table n s text)
unfolding line_table
line_long n s text l = sym (first_hit (line (ltb 63 (length text)) 31 n) (said_table n s (row_of text)) (lt-ltb 63 (length text) l))

pub line_said : (n : ℕ) (s : Sheet) (text : List ℕ) (o : Option Row) → length text ≤ 63 → o ≡ row_of text → first_of (said_table n s o) ≡ first_of (line_table n s text)
unfolding line_table
line_said n s text o l e =
    ap (λ (x : Option Row). first_of (said_table n s x)) e ∙ sym (first_pass (line (ltb 63 (length text)) 31 n) (said_table n s (row_of text)) (le-ltb 63 (length text) l))

-- the table of a line and those of the lines after it
pub lines_on : (n : ℕ) (s : Sheet) (text rest : List ℕ) → lines_table n s (text ∷ lines rest) ≡ line_table n s text ++ lines_table (suc n) (with_said s (row_of text)) (lines rest)
unfolding lines_table
lines_on n s text rest =
    let p = pieces_some line_feed rest in
    subst (λ (ps : List (List ℕ)). lines_table n s (text ∷ ps) ≡ line_table n s text ++ lines_table (suc n) (with_said s (row_of text)) ps) (sym p.2) refl

pub said_on : (s : Sheet) (text : List ℕ) (texts : List (List ℕ)) → said_by s (text ∷ texts) ≡ said_by (with_said s (row_of text)) texts
unfolding said_by
said_on s text texts = refl

-- what is known after some lines
pub record Reading (sheet rest : List ℕ) (n : ℕ) (s : Sheet) : Type 0 where
  pub table : first_of (lines_table n s (lines rest)) ≡ first_of (lines_table 1 blank (lines sheet))
  pub whole : said_by s (lines rest) ≡ said sheet
  pub few : n + length rest ≤ length sheet + 1

pub at_top : (sheet : List ℕ) (s : Sheet) → s ≡ blank → Reading sheet sheet 1 s
at_top sheet s e = record {
  table = ap (λ (x : Sheet). first_of (lines_table 1 x (lines sheet))) e;
  whole = ap (λ (x : Sheet). said_by x (lines sheet)) e;
  few = omega arith;
}

-- a line is refused
pub line_stops : (sheet rest text after : List ℕ) (n : ℕ) (s : Sheet) (t : Told) → Reading sheet rest n s → lines rest ≡ text ∷ lines after → Some t ≡ first_of (line_table n s text)
    → Some t ≡ first_of (lines_table 1 blank (lines sheet))
line_stops sheet rest text after n s t w l e =
    sym (hit_front (line_table n s text) (lines_table (suc n) (with_said s (row_of text)) (lines after)) t (sym e))
    ∙ ap first_of (sym (lines_on n s text after))
    ∙ ap (λ (ts : List (List ℕ)). first_of (lines_table n s ts)) (sym l)
    ∙ w.table

-- a line is taken
pub line_goes : (sheet rest text after : List ℕ) (n : ℕ) (s u : Sheet) → Reading sheet rest n s → lines rest ≡ text ∷ lines after → length after < length rest → None ≡ first_of (line_table n s text)
    → u ≡ with_said s (row_of text) → Reading sheet after (n + 1) u
line_goes sheet rest text after n s u w l r e q =
    let m : suc n ≡ n + 1 = omega arith in
    let f = w.few in
    record {
      table =
          ap (λ (x : Sheet). first_of (lines_table (n + 1) x (lines after))) q
          ∙ ap (λ (k : ℕ). first_of (lines_table k (with_said s (row_of text)) (lines after))) (sym m)
          ∙ sym (pass_longer (line_table n s text) (lines_table (suc n) (with_said s (row_of text)) (lines after)) (sym e))
          ∙ ap first_of (sym (lines_on n s text after))
          ∙ ap (λ (ts : List (List ℕ)). first_of (lines_table n s ts)) (sym l)
          ∙ w.table;
      whole =
          ap (λ (x : Sheet). said_by x (lines after)) q
          ∙ sym (said_on s text (lines after))
          ∙ ap (λ (ts : List (List ℕ)). said_by s ts) (sym l)
          ∙ w.whole;
      few = omega arith;
    }

-- no line is left
pub at_end : (sheet rest : List ℕ) (n : ℕ) (s : Sheet) → Reading sheet rest n s → lines rest ≡ rest ∷ [] → first_of (end_table n s (length rest)) ≡ first_of (lines_table 1 blank (lines sheet))
unfolding lines_table
at_end sheet rest n s w l = ap (λ (ts : List (List ℕ)). first_of (lines_table n s ts)) (sym l) ∙ w.table

pub nothing_said : (s : Sheet) → said_by s ([] ∷ []) ≡ s
unfolding said_by
nothing_said s = ap (λ (o : Option Row). with_said s o) (sym (found [] None (empty_line [] refl)))

pub all_said : (sheet rest : List ℕ) (n : ℕ) (s : Sheet) → Reading sheet rest n s → lines rest ≡ rest ∷ [] → length rest ≡ 0 → s ≡ said sheet
all_said sheet rest n s w l z =
    let d : rest ≡ [] = nil_from_length rest z in
    sym (nothing_said s) ∙ ap (λ (xs : List ℕ). said_by s (xs ∷ [])) (sym d) ∙ ap (λ (ts : List (List ℕ)). said_by s ts) (sym l) ∙ w.whole
