-- An accepted sheet is the one that is printed from the ladder and the jobs that it says.
use Rattle.std.proofs.Common.{◌≡◌, ℕ, suc, ◌<◌, ◌≤◌, true, false, not, ◌&&◌, eqb, ltb, List, [], ◌∷◌, ◌++◌, map, length, is_some, Some, None, Option, sym, refl, ap, ◌∙◌, subst, arith}
use Rattle.std.proofs.lemmas.List.{append_assoc, append-nil, length_push, nil_from_length}
use Rattle.std.proofs.lemmas.Bool.{true≢false, and_parts, not-false, eqb-true, not-true}
use Rattle.model.specs.declared.job.Job.{Job}
use Rattle.model.specs.declared.step.Step.{Step}
use Rattle.planner.specs.Planning.{want_line, room_line}
use Rattle.processor.specs.Tried.{lawful_from}
use Rattle.queue.proofs.Admitted.{Admitted, admitted, standing_with}
use Rattle.queue.proofs.Order.{standing_none}
use Rattle.queue.specs.Queues.{standing}
use Rattle.refusal.specs.Refusals.{Told, line, first_of}
use Rattle.book.proofs.Keeping.{clear_first, clear_front}
use Rattle.book.specs.Calls as calls
use Rattle.book.specs.Calls.Call.{enters, plans}
use Rattle.grammar.proofs.Parting.{glued, pieces_some, pieces_glued}
use Rattle.grammar.proofs.Saying.{row_exact}
use Rattle.grammar.specs.Pieces.{lines, line_feed}
use Rattle.grammar.specs.Rows.{row_of, row_text}
use Rattle.grammar.specs.declared.row.Row.{Row}
use Rattle.grammar.specs.declared.row.Row.TheVariants.{Rung, Task, Draw}
use Rattle.sheet.specs.Laws.{rows_text, sheet_text, Plannable}
use Rattle.sheet.specs.Sheets.{Sheet, blank, with_row, with_said, placed, desk, room, ladder_lines, beneath, row_table, said_table, line_table, lines_table, sheet_table, said_by, said}
use Rattle.sheet.proofs.Lines.{nothing_said}

-- a line that is not refused says a row that is in its place and that nothing refuses
record Taken (s : Sheet) (text : List ℕ) (r : Row) : Type 0 where
  says : row_of text ≡ Some r
  place : placed s r ≡ true
  clear : first_of (beneath s r) ≡ None

none_if : (o : Option Told) → is_some o ≡ false → o ≡ None
none_if None e = refl
none_if (Some t) e = absurd (true≢false e)

taken : (n : ℕ) (s : Sheet) (text : List ℕ) → first_of (line_table n s text) ≡ None → (r : Row) × Taken s text r
unfolding line_table row_table
taken n s text e = by (row_of text) refl (clear_first (line (ltb 63 (length text)) 31 n) (said_table n s (row_of text)) e).1
  where
    by : (o : Option Row) → row_of text ≡ o → first_of (said_table n s o) ≡ None → (r : Row) × Taken s text r
    by None q f = absurd (true≢false (clear_first (line true 30 n) [] f).0)
    by (Some r) q f =
        let a = clear_first (line (not (placed s r)) 30 n) (line (is_some (first_of (beneath s r))) 32 n ∷ []) f in
        let b = clear_first (line (is_some (first_of (beneath s r))) 32 n) [] a.1 in
        (r, record { says = q; place = not-false _ a.0; clear = none_if _ b.0 })

-- what follows a sheet that has said s, if it is accepted: steps, jobs, and the plan
record Follows (s : Sheet) (ps : List (List ℕ)) : Type 0 where
  steps : List Step
  jobs : List Job
  text : glued line_feed ps ≡ rows_text (map Rung steps ++ (map Task jobs ++ (Draw ∷ [])))
  saying : said_by s ps ≡ record { steps = s.steps ++ steps; jobs = s.jobs ++ jobs; drawn = true }
  late : (length s.jobs ≡ 0 → ⊥) → steps ≡ []
  plans : Plannable (s.steps ++ steps) (s.jobs ++ jobs)

-- nothing follows a plan that is drawn
ends : (n : ℕ) (s : Sheet) (ps : List (List ℕ)) → s.drawn ≡ true → 0 < length ps → first_of (lines_table n s ps) ≡ None → ps ≡ [] ∷ []
unfolding lines_table
ends n s [] d l e = absurd (omega arith)
ends n s (p ∷ []) d l e =
    let a = not-false _ (clear_first (line (not (s.drawn && eqb (length p) 0)) 30 n) [] e).0 in
    let b = (and_parts s.drawn (eqb (length p) 0) a).1 in
    ap (λ (xs : List ℕ). xs ∷ []) (nil_from_length p (eqb-true (length p) 0 b))
ends n s (p ∷ (q ∷ qs)) d l e =
    let t = taken n s p (clear_front (line_table n s p) _ e).0 in
    absurd (late t.0 t.1.place)
  where
    late : (r : Row) → placed s r ≡ true → ⊥
    late (Rung v) h = true≢false (sym d ∙ not-true _ (and_parts (not s.drawn) _ h).0)
    late (Task j) h = true≢false (sym d ∙ not-true _ h)
    late Draw h = true≢false (sym d ∙ not-true _ h)

rows_first : (r : Row) (rs : List Row) → rows_text (r ∷ rs) ≡ row_text r ++ (line_feed ∷ rows_text rs)
unfolding rows_text
rows_first r rs = refl

rows_none : rows_text [] ≡ []
unfolding rows_text
rows_none = refl

said_first : (s : Sheet) (p : List ℕ) (ps : List (List ℕ)) (r : Row) → row_of p ≡ Some r → said_by s (p ∷ ps) ≡ said_by (with_row s r) ps
unfolding said_by
said_first s p ps r e = ap (λ (o : Option Row). said_by (with_said s o) ps) e

-- the text of a line and what follows it
text_first : (p q : List ℕ) (qs : List (List ℕ)) (r : Row) (rs : List Row) → row_of p ≡ Some r → glued line_feed (q ∷ qs) ≡ rows_text rs → glued line_feed (p ∷ (q ∷ qs)) ≡ rows_text (r ∷ rs)
text_first p q qs r rs e h =
    ap (λ (xs : List ℕ). xs ++ (line_feed ∷ glued line_feed (q ∷ qs))) (row_exact p r e).0 ∙ ap (λ (xs : List ℕ). row_text r ++ (line_feed ∷ xs)) h ∙ sym (rows_first r rs)

-- the ladder and the book behind a plan
plan_clear : (s : Sheet) → first_of (beneath s Draw) ≡ None → standing s.jobs ≡ true → length s.jobs ≤ 256 → Plannable s.steps s.jobs
unfolding ladder_lines calls.lines
plan_clear s e st few =
    let c = clear_front (ladder_lines s.steps) (calls.lines (desk s.jobs) (calls.Call.plans s.steps room)) e in
    record {
      lawful = lawful_from s.steps (ap (λ (o : Option Told). is_some o) c.0);
      stands = st;
      few = few;
      able = (clear_first (want_line s.steps s.jobs) (room_line s.steps s.jobs 1024 ∷ []) c.1).0;
    }

-- the jobs with one more
task_clear : (s : Sheet) (j : Job) → first_of (beneath s (Task j)) ≡ None → Admitted s.jobs j
unfolding calls.lines
task_clear s j e = admitted s.jobs j (sym (clear_front (ladder_lines s.steps) (calls.lines (desk s.jobs) (enters j)) e).1)

-- what follows from the next line on
abbrev Onward : List (List ℕ) → Type 0
Onward ps = (n : ℕ) (s : Sheet) → s.drawn ≡ false → standing s.jobs ≡ true → length s.jobs ≤ 256 → first_of (lines_table n s ps) ≡ None → Follows s ps

-- a step
rung_follows : (n : ℕ) (s : Sheet) (v : Step) (p q : List ℕ) (qs : List (List ℕ)) → s.drawn ≡ false → standing s.jobs ≡ true → length s.jobs ≤ 256 → Taken s p (Rung v)
    → first_of (lines_table n (with_row s (Rung v)) (q ∷ qs)) ≡ None → Onward (q ∷ qs) → Follows s (p ∷ (q ∷ qs))
rung_follows n s v p q qs d st few t e on =
    let h = on n (with_row s (Rung v)) d st few e in
    let z = eqb-true (length s.jobs) 0 (and_parts (eqb (length s.jobs) 0) (ltb (length s.steps) 16) (and_parts (not s.drawn) (eqb (length s.jobs) 0 && ltb (length s.steps) 16) t.place).1).0 in
    let a = append_assoc s.steps (v ∷ []) h.steps in
    record {
      steps = v ∷ h.steps;
      jobs = h.jobs;
      text = text_first p q qs (Rung v) (map Rung h.steps ++ (map Task h.jobs ++ (Draw ∷ []))) t.says h.text;
      saying =
          said_first s p (q ∷ qs) (Rung v) t.says ∙ h.saying ∙ ap (λ (xs : List Step). record { steps = xs; jobs = s.jobs ++ h.jobs; drawn = true }) a;
      late = λ c. absurd (c z);
      plans = subst (λ (xs : List Step). Plannable xs (s.jobs ++ h.jobs)) a h.plans;
    }

-- a job
task_follows : (n : ℕ) (s : Sheet) (j : Job) (p q : List ℕ) (qs : List (List ℕ)) → s.drawn ≡ false → standing s.jobs ≡ true → length s.jobs ≤ 256 → Taken s p (Task j)
    → first_of (lines_table n (with_row s (Task j)) (q ∷ qs)) ≡ None → Onward (q ∷ qs) → Follows s (p ∷ (q ∷ qs))
task_follows n s j p q qs d st few t e on =
    let m = task_clear s j t.clear in
    let k = length_push s.jobs j in
    let r = m.room in
    let h = on n (with_row s (Task j)) d (standing_with s.jobs j st m) (omega arith) e in
    let z : h.steps ≡ [] = h.late (λ c. omega arith) in
    let a = append_assoc s.jobs (j ∷ []) h.jobs in
    record {
      steps = [];
      jobs = j ∷ h.jobs;
      text =
          text_first p q qs (Task j) (map Task h.jobs ++ (Draw ∷ [])) t.says
          (h.text ∙ ap (λ (xs : List Step). rows_text (map Rung xs ++ (map Task h.jobs ++ (Draw ∷ [])))) z);
      saying =
          said_first s p (q ∷ qs) (Task j) t.says
          ∙ h.saying
          ∙ ap (λ (xs : List Step). record { steps = s.steps ++ xs; jobs = (s.jobs ++ (j ∷ [])) ++ h.jobs; drawn = true }) z
          ∙ ap (λ (xs : List Job). record { steps = s.steps ++ []; jobs = xs; drawn = true }) a;
      late = λ _. refl;
      plans = subst (λ (xs : List Job). Plannable (s.steps ++ []) xs) a (subst (λ (xs : List Step). Plannable (s.steps ++ xs) ((s.jobs ++ (j ∷ [])) ++ h.jobs)) z h.plans);
    }

-- the plan
draw_follows : (n : ℕ) (s : Sheet) (p q : List ℕ) (qs : List (List ℕ)) → standing s.jobs ≡ true → length s.jobs ≤ 256 → Taken s p Draw
    → first_of (lines_table n (with_row s Draw) (q ∷ qs)) ≡ None → Follows s (p ∷ (q ∷ qs))
draw_follows n s p q qs st few t e =
    let z = ends n (with_row s Draw) (q ∷ qs) refl (omega arith) e in
    let a = append-nil s.steps in
    let b = append-nil s.jobs in
    record {
      steps = [];
      jobs = [];
      text = text_first p q qs Draw [] t.says (ap (λ (ps : List (List ℕ)). glued line_feed ps) z ∙ sym rows_none);
      saying =
          said_first s p (q ∷ qs) Draw t.says
          ∙ ap (λ (ps : List (List ℕ)). said_by (with_row s Draw) ps) z
          ∙ nothing_said (with_row s Draw)
          ∙ ap (λ (xs : List Step). record { steps = xs; jobs = s.jobs; drawn = true }) (sym a)
          ∙ ap (λ (xs : List Job). record { steps = s.steps ++ []; jobs = xs; drawn = true }) (sym b);
      late = λ _. refl;
      plans = subst (λ (xs : List Step). Plannable xs (s.jobs ++ [])) (sym a) (subst (λ (xs : List Job). Plannable s.steps xs) (sym b) (plan_clear s t.clear st few));
    }

row_follows : (n : ℕ) (s : Sheet) (r : Row) (p q : List ℕ) (qs : List (List ℕ)) → s.drawn ≡ false → standing s.jobs ≡ true → length s.jobs ≤ 256 → Taken s p r
    → first_of (lines_table n (with_row s r) (q ∷ qs)) ≡ None → Onward (q ∷ qs) → Follows s (p ∷ (q ∷ qs))
row_follows n s (Rung v) p q qs d st few t e on = rung_follows n s v p q qs d st few t e on
row_follows n s (Task j) p q qs d st few t e on = task_follows n s j p q qs d st few t e on
row_follows n s Draw p q qs d st few t e on = draw_follows n s p q qs st few t e

-- so all that follows is in its order
follow : (ps : List (List ℕ)) → 0 < length ps → Onward ps
unfolding lines_table
follow [] l n s d st few e = absurd (omega arith)
follow (p ∷ []) l n s d st few e =
    let a = not-false _ (clear_first (line (not (s.drawn && eqb (length p) 0)) 30 n) [] e).0 in
    absurd (true≢false (sym (and_parts s.drawn (eqb (length p) 0) a).0 ∙ d))
follow (p ∷ (q ∷ qs)) l n s d st few e =
    let c = clear_front (line_table n s p) (lines_table (suc n) (with_said s (row_of p)) (q ∷ qs)) e in
    let t = taken n s p c.0 in
    row_follows (suc n) s t.0 p q qs d st few t.1 (ap (λ (o : Option Row). first_of (lines_table (suc n) (with_said s o) (q ∷ qs))) (sym t.1.says) ∙ c.1) (follow (q ∷ qs) (omega arith))

-- lines that are not refused
pub lines_exact : (bytes : List ℕ) → first_of (lines_table 1 blank (lines bytes)) ≡ None → Plannable (said bytes).steps (said bytes).jobs × (bytes ≡ sheet_text (said bytes).steps (said bytes).jobs)
unfolding sheet_text
lines_exact bytes e =
    let p = pieces_some line_feed bytes in
    let some : 0 < length (lines bytes) = let l = ap length p.2 in omega arith in
    let f = follow (lines bytes) some 1 blank refl standing_none (omega arith) e in
    let s = f.saying in (
      subst (λ (x : Sheet). Plannable x.steps x.jobs) (sym s) f.plans,
      sym (pieces_glued line_feed bytes) ∙ f.text ∙ sym (ap (λ (x : Sheet). sheet_text x.steps x.jobs) s),
    )

-- an accepted sheet
pub accepted_exact : (size : ℕ) (bytes : List ℕ) → first_of (sheet_table size bytes) ≡ None → Plannable (said bytes).steps (said bytes).jobs × (bytes ≡ sheet_text (said bytes).steps (said bytes).jobs)
unfolding sheet_table
accepted_exact size bytes e =
    let a = clear_first (line (ltb 32768 (length bytes)) 33 0) (line (ltb size 16384) 24 0 ∷ lines_table 1 blank (lines bytes)) e in
    let b = clear_first (line (ltb size 16384) 24 0) (lines_table 1 blank (lines bytes)) a.1 in
    lines_exact bytes b.1
