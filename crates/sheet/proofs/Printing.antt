-- A sheet printed from a ladder and jobs is read as them.
use Rattle.std.proofs.Common.{◌≡◌, ℕ, suc, ◌+◌, ◌-◌, ◌*◌, ◌<◌, ◌≤◌, true, false, not, ◌&&◌, leb, List, [], ◌∷◌, ◌++◌, map, length, is_some, Some, None, decimal, Option, sym, refl, ap, ◌∙◌, subst, inl, inr, arith, lit<}
use Rattle.std.proofs.lemmas.Fmt.{length-decimal-le}
use Rattle.std.proofs.lemmas.List.{append_assoc, append-nil, length-append, length_push, length-map, take_at, get_or_append_left, get_or_push}
use Rattle.std.proofs.lemmas.Bool.{lt-ltb, le-ltb, lt-leb, and_from, and_parts, not_from_true, cases_eq}
use Rattle.model.specs.Jobs.{no_job, job_at}
use Rattle.model.specs.Plan.{plan}
use Rattle.model.specs.Speed.{want}
use Rattle.model.specs.Steps.{speed_at, power_at}
use Rattle.model.specs.declared.job.Job.{Job}
use Rattle.model.specs.declared.step.Step.{Step}
use Rattle.planner.specs.Planning.{want_line, room_line}
use Rattle.processor.specs.Tried.{passes_from}
use Rattle.queue.proofs.Order.{standing_fit, standing_follows, standing_take, limits, follows_none}
use Rattle.queue.specs.Queues.{good_times, good_work, good_account, follows, last_of, fit, push_lines, standing}
use Rattle.refusal.proofs.Lines.{first_pass}
use Rattle.refusal.specs.Refusals.{Told, line, first_of}
use Rattle.book.proofs.Promises.{pass_longer}
use Rattle.book.specs.Calls as calls
use Rattle.book.specs.Calls.Call.{enters, plans}
use Rattle.grammar.proofs.Numbering.{decimal_free}
use Rattle.grammar.proofs.Parting.{Free, pieces_front}
use Rattle.grammar.proofs.Saying.{row_back}
use Rattle.grammar.specs.Pieces.{lines, line_feed, pieces}
use Rattle.grammar.specs.Rows.{row_text, numbers_of, fields, Small}
use Rattle.grammar.specs.declared.row.Row.{Row}
use Rattle.grammar.specs.declared.row.Row.TheVariants.{Rung, Task, Draw}
use Rattle.sheet.specs.Laws.{rows_text, sheet_text, Plannable}
use Rattle.sheet.specs.Sheets.{Sheet, blank, with_row, with_said, placed, desk, room, ladder_lines, beneath, row_table, line_table, lines_table, sheet_table, said_by, said}
use Rattle.sheet.proofs.Filled.{by_lines}
use Rattle.sheet.proofs.Fits.{plan_length}
use Rattle.sheet.proofs.Lines.{lines_on, line_said, nothing_said, said_on}

-- a row's text has no line feed in it, and is short
fields_free : (ns : List ℕ) → Small ns → Free line_feed (fields ns)
unfolding fields
fields_free [] s = tt
fields_free (n ∷ ns) s = (λ e. omega arith, free_append (decimal n) (fields ns) (decimal_free line_feed n (lit< tt) s.0) (fields_free ns s.1))
  where
    free_append : (xs ys : List ℕ) → Free line_feed xs → Free line_feed ys → Free line_feed (xs ++ ys)
    free_append [] ys a b = b
    free_append (x ∷ xs) ys a b = (a.0, free_append xs ys a.1 b)

text_free : (r : Row) → Small (numbers_of r) → Free line_feed (row_text r)
text_free (Rung v) s = (λ e. omega arith, fields_free (numbers_of (Rung v)) s)
text_free (Task j) s = (λ e. omega arith, fields_free (numbers_of (Task j)) s)
text_free Draw s = (λ e. omega arith, fields_free [] tt)

fields_short : (ns : List ℕ) → Small ns → length (fields ns) ≤ 11 * length ns
unfolding fields
fields_short [] s = omega arith
fields_short (n ∷ ns) s =
    let h = fields_short ns s.1 in
    let f = s.0 in
    let d = length-decimal-le 10 n (lit< tt) (omega arith) (omega arith) in
    let a = length-append (decimal n) (fields ns) in
    omega arith

text_short : (r : Row) → Small (numbers_of r) → length (row_text r) ≤ 45
text_short (Rung v) s = let h = fields_short (numbers_of (Rung v)) s in omega arith
text_short (Task j) s = let h = fields_short (numbers_of (Task j)) s in omega arith
text_short Draw s = let h = fields_short [] tt in omega arith

-- the first line of rows
first_line : (r : Row) (rs : List Row) → Small (numbers_of r) → lines (rows_text (r ∷ rs)) ≡ row_text r ∷ lines (rows_text rs)
unfolding rows_text
first_line r rs s = pieces_front line_feed (row_text r) (rows_text rs) (text_free r s)

-- the table and what is said are the same after some rows
pub record Moves (n : ℕ) (s : Sheet) (rs : List Row) (m : ℕ) (t : Sheet) (qs : List Row) : Type 0 where
  pub table : first_of (lines_table n s (lines (rows_text rs))) ≡ first_of (lines_table m t (lines (rows_text qs)))
  pub saying : said_by s (lines (rows_text rs)) ≡ said_by t (lines (rows_text qs))

moves_none : (n : ℕ) (s : Sheet) (rs : List Row) → Moves n s rs n s rs
moves_none n s rs = record { table = refl; saying = refl }

moves_on : {n m k : ℕ} {s t u : Sheet} {rs qs ps : List Row} → Moves n s rs m t qs → Moves m t qs k u ps → Moves n s rs k u ps
moves_on a b = record { table = a.table ∙ b.table; saying = a.saying ∙ b.saying }

-- a row in its place that nothing refuses
row_moves : (n : ℕ) (s : Sheet) (r : Row) (rs : List Row) → Small (numbers_of r) → placed s r ≡ true → first_of (beneath s r) ≡ None → Moves n s (r ∷ rs) (suc n) (with_row s r) rs
unfolding row_table
row_moves n s r rs f p b =
    let l = first_line r rs f in
    let h = text_short r f in
    let back = row_back r f in
    let clear : first_of (line_table n s (row_text r)) ≡ None =
    sym (line_said n s (row_text r) (Some r) (omega arith) (sym back))
    ∙ first_pass (line (not (placed s r)) 30 n) (line (is_some (first_of (beneath s r))) 32 n ∷ []) (not_from_true _ p)
    ∙ first_pass (line (is_some (first_of (beneath s r))) 32 n) [] (ap (λ (o : Option Told). is_some o) b) in
    record {
      table =
          ap (λ (ts : List (List ℕ)). first_of (lines_table n s ts)) l
          ∙ ap first_of (lines_on n s (row_text r) (rows_text rs))
          ∙ pass_longer (line_table n s (row_text r)) _ clear
          ∙ ap (λ (o : Option Row). first_of (lines_table (suc n) (with_said s o) (lines (rows_text rs)))) back;
      saying =
          ap (λ (ts : List (List ℕ)). said_by s ts) l
          ∙ said_on s (row_text r) (lines (rows_text rs))
          ∙ ap (λ (o : Option Row). said_by (with_said s o) (lines (rows_text rs))) back;
    }

-- steps of a ladder, one by one
rungs_move : (n : ℕ) (xs ys : List Step) (rest : List Row) → length xs + length ys ≤ 16
    → ((i : ℕ) → i < length ys → (speed_at ys i ≤ 4000) × (power_at ys i ≤ 1000000))
    → (m : ℕ) × Moves n (record { steps = xs; jobs = []; drawn = false }) (map Rung ys ++ rest) m (record { steps = xs ++ ys; jobs = []; drawn = false }) rest
unfolding speed_at power_at
rungs_move n xs [] rest l h = (n, subst (λ (zs : List Step). Moves n (record { steps = xs; jobs = []; drawn = false }) rest n (record { steps = zs; jobs = []; drawn = false }) rest) (sym (append-nil xs)) (moves_none n _ rest))
rungs_move n xs (y ∷ ys) rest l h =
    let a = h 0 (omega arith) in
    let k = length_push xs y in
    let one = row_moves n (record { steps = xs; jobs = []; drawn = false }) (Rung y) (map Rung ys ++ rest) (let b = a.0 in let c = a.1 in (omega arith, (omega arith, tt)))
    (and_from _ _ refl (and_from _ _ refl (lt-ltb (length xs) 16 (omega arith)))) refl in
    let more = rungs_move (suc n) (xs ++ (y ∷ [])) ys rest (omega arith) (λ i j. h (suc i) (omega arith)) in (
      more.0,
      subst (λ (zs : List Step). Moves n (record { steps = xs; jobs = []; drawn = false }) (Rung y ∷ (map Rung ys ++ rest)) more.0 (record { steps = zs; jobs = []; drawn = false }) rest)
          (append_assoc xs (y ∷ []) ys) (moves_on one more.1),
    )

-- a job that the standing jobs admit
job_last : (js : List Job) (k : Job) (i : ℕ) → length js ≡ i → job_at (js ++ (k ∷ [])) i ≡ k
unfolding job_at
job_last js k i e = get_or_push js k no_job i e

job_before : (js : List Job) (k : Job) (i : ℕ) → i < length js → job_at (js ++ (k ∷ [])) i ≡ job_at js i
unfolding job_at
job_before js k i l = get_or_append_left js (k ∷ []) no_job i l

follows_last : (js : List Job) (k : Job) → standing (js ++ (k ∷ [])) ≡ true → follows (last_of js) k ≡ true
unfolding last_of
follows_last js k st = elim (cases_eq (length js) 0) [
  | inl z ↦ follows_none js k z
  | inr z ↦
      let n = length_push js k in
      let i = length js - 1 in
      let e : suc i ≡ length js = omega arith in
      let f = standing_follows (js ++ (k ∷ [])) st i (omega arith) in
      subst (λ (x : Job). follows (job_at js i) x ≡ true) (job_last js k (suc i) (sym e))
      (subst (λ (x : Job). follows x (job_at (js ++ (k ∷ [])) (suc i)) ≡ true) (job_before js k i (omega arith)) f)
]

admits : (js : List Job) (k : Job) → standing (js ++ (k ∷ [])) ≡ true → length js < 256 → first_of (push_lines js k) ≡ None
admits js k st l =
    let n = length_push js k in
    let f = subst (λ (x : Job). fit x ≡ true) (job_last js k (length js) refl) (standing_fit (js ++ (k ∷ [])) st (length js) (omega arith)) in
    let (t, r) = and_parts (good_times k) (good_work k && good_account k) f in
    let (w, a) = and_parts (good_work k) (good_account k) r in
    let l5 = line (not (follows (last_of js) k)) 13 0 in
    let l4 = line (not (good_account k)) 12 0 in
    let l3 = line (not (good_work k)) 11 0 in
    let l2 = line (not (good_times k)) 10 0 in
    first_pass (line (leb 256 (length js)) 9 0) (l2 ∷ (l3 ∷ (l4 ∷ (l5 ∷ [])))) (lt-leb 256 (length js) l)
    ∙ first_pass l2 (l3 ∷ (l4 ∷ (l5 ∷ []))) (not_from_true _ t)
    ∙ first_pass l3 (l4 ∷ (l5 ∷ [])) (not_from_true _ w)
    ∙ first_pass l4 (l5 ∷ []) (not_from_true _ a)
    ∙ first_pass l5 [] (not_from_true _ (follows_last js k st))

book_admits : (js : List Job) (k : Job) → standing (js ++ (k ∷ [])) ≡ true → length js < 256 → first_of (calls.lines (desk js) (enters k)) ≡ None
unfolding calls.lines
book_admits js k st l = admits js k st l

job_small : (j : Job) → fit j ≡ true → Small (numbers_of (Task j))
job_small j f =
    let m = limits j f in
    let a = m.timely in
    let b = m.soon in
    let c = m.small in
    let d = m.known in
    (omega arith, (omega arith, (omega arith, (omega arith, tt))))

-- jobs, one by one
tasks_move : (n : ℕ) (steps : List Step) (js ks : List Job) (rest : List Row) → first_of (ladder_lines steps) ≡ None → standing (js ++ ks) ≡ true → length js + length ks ≤ 256
    → (m : ℕ) × Moves n (record { steps = steps; jobs = js; drawn = false }) (map Task ks ++ rest) m (record { steps = steps; jobs = js ++ ks; drawn = false }) rest
tasks_move n steps js [] rest c st l =
    (n, subst (λ (zs : List Job). Moves n (record { steps = steps; jobs = js; drawn = false }) rest n (record { steps = steps; jobs = zs; drawn = false }) rest) (sym (append-nil js)) (moves_none n _ rest))
tasks_move n steps js (k ∷ ks) rest c st l =
    let e : (js ++ (k ∷ [])) ++ ks ≡ js ++ (k ∷ ks) = append_assoc js (k ∷ []) ks in
    let su : standing ((js ++ (k ∷ [])) ++ ks) ≡ true = ap standing e ∙ st in
    let p = length_push js k in
    let s1 : standing (js ++ (k ∷ [])) ≡ true = ap standing (sym (take_at (js ++ (k ∷ [])) ks (length js + 1) p)) ∙ standing_take ((js ++ (k ∷ [])) ++ ks) (length js + 1) su in
    let f = subst (λ (x : Job). fit x ≡ true) (job_last js k (length js) refl) (standing_fit (js ++ (k ∷ [])) s1 (length js) (omega arith)) in
    let one = row_moves n (record { steps = steps; jobs = js; drawn = false }) (Task k) (map Task ks ++ rest) (job_small k f) refl
    (pass_longer (ladder_lines steps) (calls.lines (desk js) (enters k)) c ∙ book_admits js k s1 (omega arith)) in
    let more = tasks_move (suc n) steps (js ++ (k ∷ [])) ks rest c su (omega arith) in (
      more.0,
      subst (λ (zs : List Job). Moves n (record { steps = steps; jobs = js; drawn = false }) (Task k ∷ (map Task ks ++ rest)) more.0 (record { steps = steps; jobs = zs; drawn = false }) rest)
          e (moves_on one more.1),
    )

-- the plan, and the end
book_plans : (steps : List Step) (js : List Job) → want steps js ≡ false → length js ≤ 256 → first_of (calls.lines (desk js) (plans steps room)) ≡ None
unfolding calls.lines
book_plans steps js w l =
    let k = plan_length steps js l in
    first_pass (want_line steps js) (room_line steps js 1024 ∷ []) w ∙ first_pass (room_line steps js 1024) [] (le-ltb 1024 (length (plan steps js)) k)

draw_moves : (n : ℕ) (steps : List Step) (js : List Job) → first_of (ladder_lines steps) ≡ None → want steps js ≡ false → length js ≤ 256
    → Moves n (record { steps = steps; jobs = js; drawn = false }) (Draw ∷ []) (suc n) (record { steps = steps; jobs = js; drawn = true }) []
draw_moves n steps js c w l = row_moves n (record { steps = steps; jobs = js; drawn = false }) Draw [] tt refl (pass_longer (ladder_lines steps) (calls.lines (desk js) (plans steps room)) c ∙ book_plans steps js w l)

-- all rows
whole_moves : (steps : List Step) (jobs : List Job) → Plannable steps jobs → (m : ℕ) × Moves 1 blank (map Rung steps ++ (map Task jobs ++ (Draw ∷ []))) m (record { steps = steps; jobs = jobs; drawn = true }) []
unfolding ladder_lines
whole_moves steps jobs p =
    let w = p.lawful in
    let c = passes_from steps w in
    let m = w.most in
    let a = rungs_move 1 [] steps (map Task jobs ++ (Draw ∷ [])) (omega arith) (λ i l. (w.fast i l, w.dear i l)) in
    let f = p.few in
    let b = tasks_move a.0 steps [] jobs (Draw ∷ []) c p.stands (omega arith) in
    let d = draw_moves b.0 steps jobs c p.able f in
    (suc b.0, moves_on a.1 (moves_on b.1 d))

end_clear : (m : ℕ) (steps : List Step) (jobs : List Job) → first_of (lines_table m (record { steps = steps; jobs = jobs; drawn = true }) (lines (rows_text []))) ≡ None
unfolding lines_table rows_text pieces
end_clear m steps jobs = refl

end_said : (steps : List Step) (jobs : List Job) → said_by (record { steps = steps; jobs = jobs; drawn = true }) (lines (rows_text [])) ≡ record { steps = steps; jobs = jobs; drawn = true }
unfolding rows_text pieces
end_said steps jobs = nothing_said (record { steps = steps; jobs = jobs; drawn = true })

-- rows of numbers of at most ten digits are few bytes
abbrev AllSmall : List Row → Type 0
AllSmall [] = Unit {0}
AllSmall (r ∷ rs) = Small (numbers_of r) × AllSmall rs

rows_short : (rs : List Row) → AllSmall rs → length (rows_text rs) ≤ 46 * length rs
unfolding rows_text
rows_short [] s = omega arith
rows_short (r ∷ rs) s =
    let h = rows_short rs s.1 in
    let t = text_short r s.0 in
    let a = length-append (row_text r) (line_feed ∷ rows_text rs) in
    omega arith

small_append : (rs qs : List Row) → AllSmall rs → AllSmall qs → AllSmall (rs ++ qs)
small_append [] qs a b = b
small_append (r ∷ rs) qs a b = (a.0, small_append rs qs a.1 b)

rungs_small : (ys : List Step) → ((i : ℕ) → i < length ys → (speed_at ys i ≤ 4000) × (power_at ys i ≤ 1000000)) → AllSmall (map Rung ys)
unfolding speed_at power_at
rungs_small [] h = tt
rungs_small (y ∷ ys) h =
    let a = h 0 (omega arith) in
    ((let b = a.0 in let c = a.1 in (omega arith, (omega arith, tt))), rungs_small ys (λ i l. h (suc i) (omega arith)))

tasks_small : (js : List Job) → ((i : ℕ) → i < length js → fit (job_at js i) ≡ true) → AllSmall (map Task js)
unfolding job_at
tasks_small [] h = tt
tasks_small (j ∷ js) h = (job_small j (h 0 (omega arith)), tasks_small js (λ i l. h (suc i) (omega arith)))

sheet_short : (steps : List Step) (jobs : List Job) → Plannable steps jobs → length (sheet_text steps jobs) ≤ 32768
unfolding sheet_text
sheet_short steps jobs p =
    let w = p.lawful in
    let f = p.few in
    let m = w.most in
    let s = rows_short (map Rung steps ++ (map Task jobs ++ (Draw ∷ [])))
    (small_append (map Rung steps) (map Task jobs ++ (Draw ∷ [])) (rungs_small steps (λ i l. (w.fast i l, w.dear i l)))
    (small_append (map Task jobs) (Draw ∷ []) (tasks_small jobs (standing_fit jobs p.stands)) (tt, tt))) in
    let a = length-append (map Rung steps) (map Task jobs ++ (Draw ∷ [])) in
    let b = length-append (map Task jobs) (Draw ∷ []) in
    let c = length-map steps Rung in
    let d = length-map jobs Task in
    omega arith

-- what is printed is read
pub printed_back : (size : ℕ) (steps : List Step) (jobs : List Job) → Plannable steps jobs → 16384 ≤ size
    → (first_of (sheet_table size (sheet_text steps jobs)) ≡ None) × (said (sheet_text steps jobs) ≡ record { steps = steps; jobs = jobs; drawn = true })
unfolding sheet_text
printed_back size steps jobs p l =
    let w = whole_moves steps jobs p in (
      sym (by_lines size (sheet_text steps jobs) (sheet_short steps jobs p) l) ∙ w.1.table ∙ end_clear w.0 steps jobs,
      w.1.saying ∙ end_said steps jobs,
    )
