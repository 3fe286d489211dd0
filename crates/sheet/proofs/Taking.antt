-- A row taken into a page: what is answered, and what the page is then.
use Rattle.std.proofs.Common.{◌≡◌, ℕ, ◌<◌, ◌≤◌, Bool, true, false, not, eqb, List, [], ◌∷◌, ◌++◌, length, take, drop, is_some, ◌↔◌, IsOk, OnErr, MatchResult, Some, None, Ok, Err, Option, Result, sym, refl, ap, ◌∙◌, subst, arith}
use Rattle.std.proofs.lemmas.List.{length-append, length_push, take_at}
use Rattle.std.proofs.lemmas.Bool.{true≢false, le-ltb, lt-ltb, ne_eqb, eq-eqb, and_from, and_left, and_right, not_from_true, not_from_false}
use Rattle.model.specs.Plan.{plan}
use Rattle.model.specs.declared.job.Job.{Job}
use Rattle.model.specs.declared.segment.Segment.{Segment}
use Rattle.model.specs.declared.step.Step.{Step as Level}
use Rattle.planner.specs.declared.plan.Planned.{Planned}
use Rattle.processor.specs.Meanings.{ladder_steps}
use Rattle.processor.specs.declared.ladder.Ladder.{Ladder}
use Rattle.refusal.proofs.Lines.{first_pass, first_hit}
use Rattle.refusal.specs.Refusals.{Told, told, told_of, Line, line, first_of, outcome}
use Rattle.refusal.specs.declared.refusal.Refusal.{Refusal}
use Rattle.book.proofs.Steps.{after_refused}
use Rattle.book.specs.Books.{state}
use Rattle.book.specs.Calls.{State, answer, after, lines}
use Rattle.book.specs.Calls.Answer.{refused, done, planned}
use Rattle.book.specs.Calls.Call.{enters, plans}
use Rattle.book.specs.declared.book.Book.{Book}
use Rattle.grammar.specs.declared.row.Row.{Row}
use Rattle.grammar.specs.declared.row.Row.TheVariants.{Rung, Task, Draw}
use Rattle.sheet.specs.Answers.{fault_told, fault_outcome}
use Rattle.sheet.specs.Pages.{Good, Reached, Tasking, sheet_of, is_drawn}
use Rattle.sheet.specs.Sheets.{Sheet, desk, room, ladder_lines, with_row, beneath, placed, row_table}
use Rattle.sheet.specs.declared.fault.Fault.{Fault}
use Rattle.sheet.specs.declared.page.Page.TheInside.{Inside}
use Rattle.sheet.specs.declared.page.Stage.{Stage}
use Rattle.sheet.specs.declared.page.Stage.TheVariants.{Rungs, Tasks, Drawn}
use Rattle.sheet.proofs.Desks.{enter_refused, enter_done, entered, plan_refused, plan_done, plan_room, drawn_on, ladder_first, book_next}

-- what a refused call inside is answered with
pub refused_as : {X : Type 0} (r : Result X Refusal) (e : Refusal) → (y : Refusal) × (r ≡ Err y) × (y ≡ e) → outcome r ≡ Some (told_of e)
refused_as r e y = ap outcome y.1 ∙ ap (λ (x : Refusal). Some (told_of x)) y.2

pub faulted_as : {X : Type 0} (r : Result X Fault) (e : Fault) → (y : Fault) × (r ≡ Err y) × (y ≡ e) → fault_outcome r ≡ Some (fault_told e)
faulted_as r e y = ap fault_outcome y.1 ∙ ap (λ (x : Fault). Some (fault_told x)) y.2

-- the ladder refuses a job or the plan
pub task_unladdered : (s : Sheet) (t : Told) (j : Job) → Some t ≡ first_of (ladder_lines s.steps) → Some t ≡ first_of (beneath s (Task j))
task_unladdered s t j e = ladder_first (ladder_lines s.steps) _ t e

pub draw_unladdered : (s : Sheet) (t : Told) → Some t ≡ first_of (ladder_lines s.steps) → Some t ≡ first_of (beneath s Draw)
draw_unladdered s t e = ladder_first (ladder_lines s.steps) _ t e

-- a page that is seen as a sheet
pub record Seen (p : Inside) (s : Sheet) : Type 0 where
  pub good : Good p
  pub is : sheet_of p ≡ s

pub seen : {p : Inside} {s : Sheet} → Good p → sheet_of p ≡ s → Seen p s
seen g i = record { good = g; is = i }

book_of : (p : Inside) (s : Sheet) → Seen p s → state p.book ≡ desk s.jobs
book_of p s w = w.good.book ∙ ap (λ (x : Sheet). desk x.jobs) w.is

-- a page with another book and at another stage
abbrev pub turned : Inside → Book → Stage → List Segment → Inside
turned p b t xs = record { steps = p.steps; book = b; stage = t; segments = xs }

-- the book refuses a job, and is as it was
pub task_refused : (p : Inside) (s : Sheet) (j : Job) (e : Refusal) → Seen p s → None ≡ first_of (ladder_lines s.steps) → refused (told_of e) ≡ answer (state p.book) (enters j)
    → Some (told_of e) ≡ first_of (beneath s (Task j))
task_refused p s j e w n a =
    book_next (ladder_lines s.steps) _ (Some (told_of e)) (sym n) (enter_refused (desk s.jobs) j e (a ∙ ap (λ (x : State). answer x (enters j)) (book_of p s w)))

pub good_unentered : (p : Inside) (b : Book) (j : Job) (e : Refusal) → Good p → refused (told_of e) ≡ answer (state p.book) (enters j) → state b ≡ after (state p.book) (enters j)
    → Good (turned p b p.stage p.segments)
good_unentered p b j e g a t =
    let u : state b ≡ state p.book = t ∙ after_refused (state p.book) (enters j) (told_of e) (sym (enter_refused (state p.book) j e a)) in
    record {
      segments = g.segments;
      few = g.few;
      book = u ∙ g.book ∙ ap (λ (x : State). desk x.jobs) (sym u);
      stage = subst (λ (x : State). Reached p.stage (record { steps = p.steps.items; jobs = x.jobs; drawn = is_drawn p.stage }) p.segments) (sym u) g.stage;
    }

-- a job is entered
pub record Tasked (p : Inside) (s : Sheet) (b : Book) (l : Ladder) (j : Job) : Type 0 where
  pub answers : None ≡ first_of (beneath s (Task j))
  pub good : Good (turned p b (Tasks l) p.segments)
  pub after : sheet_of (turned p b (Tasks l) p.segments) ≡ with_row s (Task j)

pub task_taken : (p : Inside) (s : Sheet) (b : Book) (l : Ladder) (j : Job) → Seen p s → s.drawn ≡ false → None ≡ first_of (ladder_lines s.steps) → ladder_steps l ≡ s.steps
    → done ≡ answer (state p.book) (enters j) → state b ≡ after (state p.book) (enters j) → Tasked p s b l j
task_taken p s b l j w d n m a t =
    let k = book_of p s w in
    let g = w.good in
    let z = enter_done (desk s.jobs) j (a ∙ ap (λ (x : State). answer x (enters j)) k) in
    let u : state b ≡ desk (s.jobs ++ (j ∷ [])) = entered s.jobs j (state b) z (t ∙ ap (λ (x : State). after x (enters j)) k) in
    let js : (state b).jobs ≡ s.jobs ++ (j ∷ []) = ap (λ (x : State). x.jobs) u in
    let ss : p.steps.items ≡ s.steps = ap (λ (x : Sheet). x.steps) w.is in
    record {
      answers = book_next (ladder_lines s.steps) _ None (sym n) (sym z);
      good = record {
        segments = g.segments;
        few = g.few;
        book = u ∙ ap desk (sym js);
        stage = record {
          busy = subst (λ (xs : List Job). 0 < length xs) (sym js) (let q = length_push s.jobs j in omega arith);
          ladder = m ∙ sym ss;
          lawful = ap (λ (xs : List Level). first_of (ladder_lines xs)) ss ∙ sym n;
        };
      };
      after =
          ap (λ (xs : List Level). record { steps = xs; jobs = (state b).jobs; drawn = false }) ss
          ∙ ap (λ (xs : List Job). record { steps = s.steps; jobs = xs; drawn = false }) js
          ∙ ap (λ (t : Bool). record { steps = s.steps; jobs = s.jobs ++ (j ∷ []); drawn = t }) (sym d);
    }

-- once the ladder is made, it is the one of the steps, and none of the rules refuses it
pub tasking : {p : Inside} {s : Sheet} (l : Ladder) → Seen p s → p.stage ≡ Tasks l → Tasking s l
tasking {p} l w e = subst (λ (x : Sheet). Tasking x l) w.is (subst (λ (t : Stage). Reached t (sheet_of p) p.segments) e w.good.stage)

-- a job is entered behind others
pub record Followed (p : Inside) (s : Sheet) (b : Book) (j : Job) : Type 0 where
  pub answers : None ≡ first_of (beneath s (Task j))
  pub good : Good (turned p b p.stage p.segments)
  pub after : sheet_of (turned p b p.stage p.segments) ≡ with_row s (Task j)

pub task_followed : (p : Inside) (s : Sheet) (b : Book) (l : Ladder) (j : Job) → Seen p s → s.drawn ≡ false → p.stage ≡ Tasks l
    → done ≡ answer (state p.book) (enters j) → state b ≡ after (state p.book) (enters j) → Followed p s b j
task_followed p s b l j w d e a t =
    let k = tasking l w e in
    let f = task_taken p s b l j w d (sym k.lawful) k.ladder a t in
    record {
      answers = f.answers;
      good = subst (λ (x : Stage). Good (turned p b x p.segments)) (sym e) f.good;
      after = subst (λ (x : Stage). sheet_of (turned p b x p.segments) ≡ with_row s (Task j)) (sym e) f.after;
    }

-- the table of a plan asks of the buffer only how long it is
room_for : (p : Inside) (jobs : List Job) (steps : List Level) → Good p → first_of (lines (desk jobs) (plans steps p.segments)) ≡ first_of (lines (desk jobs) (plans steps room))
room_for p jobs steps g = ap first_of (plan_room (desk jobs) steps p.segments room g.segments)

-- the answer to a plan on a ladder of the steps
plan_answer : (p : Inside) (s : Sheet) (l : Ladder) → Seen p s → ladder_steps l ≡ s.steps → answer (state p.book) (plans (ladder_steps l) p.segments) ≡ answer (desk s.jobs) (plans s.steps p.segments)
plan_answer p s l w m =
    ap (λ (x : State). answer x (plans (ladder_steps l) p.segments)) (book_of p s w) ∙ ap (λ (xs : List Level). answer (desk s.jobs) (plans xs p.segments)) m

-- the book refuses the plan
pub draw_refused : (p : Inside) (s : Sheet) (l : Ladder) (e : Refusal) → Seen p s → None ≡ first_of (ladder_lines s.steps) → ladder_steps l ≡ s.steps
    → refused (told_of e) ≡ answer (state p.book) (plans (ladder_steps l) p.segments) → Some (told_of e) ≡ first_of (beneath s Draw)
draw_refused p s l e w n m a =
    book_next (ladder_lines s.steps) _ (Some (told_of e)) (sym n) (plan_refused (desk s.jobs) s.steps p.segments e (a ∙ plan_answer p s l w m) ∙ room_for p s.jobs s.steps w.good)

-- the plan is drawn
pub record Drawing (p : Inside) (s : Sheet) (xs : List Segment) (a : Planned) : Type 0 where
  pub answers : None ≡ first_of (beneath s Draw)
  pub good : Good (turned p p.book (Drawn a) xs)

pub draw_taken : (p : Inside) (s : Sheet) (l : Ladder) (xs : List Segment) (a : Planned) → Seen p s → None ≡ first_of (ladder_lines s.steps) → ladder_steps l ≡ s.steps → length xs ≡ length p.segments
    → planned a.segments a.energy xs ≡ answer (state p.book) (plans (ladder_steps l) p.segments) → Drawing p s xs a
draw_taken p s l xs a w n m k e =
    let g = w.good in
    let h = g.segments in
    let f = e ∙ plan_answer p s l w m in
    let z = plan_done (desk s.jobs) s.steps p.segments xs a.segments a.energy f in
    let v : ◌≡◌ {A = Sheet} (record { steps = p.steps.items; jobs = (state p.book).jobs; drawn = true }) (record { steps = s.steps; jobs = s.jobs; drawn = true }) = ap (λ (x : Sheet). with_row x Draw) w.is in
    let d = drawn_on s.steps s.jobs p.segments xs a.segments a.energy f in
    let i = ap length d.after ∙ length-append (plan s.steps s.jobs) (drop (length (plan s.steps s.jobs)) p.segments) in
    let c = d.count in
    record {
      answers = book_next (ladder_lines s.steps) _ None (sym n) (sym (sym (room_for p s.jobs s.steps g) ∙ z));
      good = record {
        segments = k ∙ h;
        few = g.few;
        book = g.book;
        stage = subst (λ (x : Sheet). Reached (Drawn a) x xs) (sym v) (record {
          lawful = sym n;
          able = d.able;
          plan = ap (λ (ys : List Segment). take a.segments ys) d.after ∙ take_at (plan s.steps s.jobs) (drop (length (plan s.steps s.jobs)) p.segments) a.segments (sym c);
          count = omega arith;
          energy = d.energy;
        });
      };
    }

-- the rest of a row's table
abbrev below : ℕ → Sheet → Row → List Line
below n s r = line (is_some (first_of (beneath s r))) 32 n ∷ []

-- a step out of its place: a job stands, or 16 steps do
busy_late : (t : Stage) (s : Sheet) (xs : List Segment) → Reached t s xs → is_drawn t ≡ false → (t ≡ Rungs → ⊥) → 0 < length s.jobs
busy_late Rungs s xs r d n = absurd (n refl)
busy_late (Tasks l) s xs r d n = r.busy
busy_late (Drawn a) s xs r d n = absurd (true≢false d)

late_busy : (s : Sheet) (v : Level) (n : ℕ) → 0 < length s.jobs → Some (told 30 n) ≡ first_of (row_table n s (Rung v))
unfolding row_table
late_busy s v n b =
    sym (first_hit (line (not (placed s (Rung v))) 30 n) (below n s (Rung v))
    (not_from_false _ (and_right (not s.drawn) _ (and_left (eqb (length s.jobs) 0) _ (ne_eqb (length s.jobs) 0 (λ e. omega arith))))))

pub rung_late : (p : Inside) (s : Sheet) (v : Level) (n : ℕ) → Seen p s → s.drawn ≡ false → (p.stage ≡ Rungs → ⊥) → Some (told 30 n) ≡ first_of (row_table n s (Rung v))
rung_late p s v n w d r =
    let b = busy_late p.stage (sheet_of p) p.segments w.good.stage (ap (λ (x : Sheet). x.drawn) w.is ∙ d) r in
    late_busy s v n (subst (λ (x : Sheet). 0 < length x.jobs) w.is b)

pub rung_over : (s : Sheet) (v : Level) (n : ℕ) → 16 ≤ length s.steps → Some (told 30 n) ≡ first_of (row_table n s (Rung v))
unfolding row_table
rung_over s v n l =
    sym (first_hit (line (not (placed s (Rung v))) 30 n) (below n s (Rung v))
    (not_from_false _ (and_right (not s.drawn) _ (and_right (eqb (length s.jobs) 0) _ (le-ltb (length s.steps) 16 l)))))

-- a step in its place
pub rung_placed : (s : Sheet) (v : Level) (n : ℕ) → s.drawn ≡ false → s.jobs ≡ [] → length s.steps < 16 → None ≡ first_of (row_table n s (Rung v))
unfolding row_table
rung_placed s v n d b l =
    sym (first_pass (line (not (placed s (Rung v))) 30 n) (below n s (Rung v))
    (not_from_true _ (and_from _ _ (not_from_false _ d) (and_from _ _ (eq-eqb (length s.jobs) 0 (ap length b)) (lt-ltb (length s.steps) 16 l)))))

bare_rungs : (p : Inside) (s : Sheet) → Seen p s → p.stage ≡ Rungs → s.jobs ≡ []
bare_rungs p s w e = subst (λ (x : Sheet). x.jobs ≡ []) w.is (subst (λ (t : Stage). Reached t (sheet_of p) p.segments) e w.good.stage)

-- what is answered to a step that is pushed where there is room
pub rung_told : {E : Type 0} (p : Inside) (s : Sheet) (v : Level) (n : ℕ) (r : Result (Unit {0}) E) (q : Result (Unit {0}) Fault) → Seen p s → s.drawn ≡ false → p.stage ≡ Rungs
    → (IsOk r ↔ (length p.steps.items < 16)) → OnErr r (length p.steps.items ≡ 16) → MatchResult r (λ x. q ≡ Ok x) (λ _. fault_outcome q ≡ Some (told 30 n)) → fault_outcome q ≡ first_of (row_table n s (Rung v))
rung_told p s v n (Ok x) q w d e i f m =
    let k = ap (λ (y : Sheet). length y.steps) w.is in
    let l = i.0 refl in
    ap fault_outcome m ∙ rung_placed s v n d (bare_rungs p s w e) (omega arith)
rung_told p s v n (Err x) q w d e i f m = let k = ap (λ (y : Sheet). length y.steps) w.is in m ∙ rung_over s v n (omega arith)

-- nothing stands after the plan
pub after_plan : (s : Sheet) (r : Row) (n : ℕ) → s.drawn ≡ true → Some (told 30 n) ≡ first_of (row_table n s r)
unfolding row_table
after_plan s r n e = sym (first_hit (line (not (placed s r)) 30 n) (below n s r) (not_from_false _ (by r)))
  where
    by : (r : Row) → placed s r ≡ false
    by (Rung v) = and_left (not s.drawn) _ (not_from_true _ e)
    by (Task j) = not_from_true _ e
    by Draw = not_from_true _ e

-- before it a job or the plan is in its place, and what is beneath decides
pub beneath_decides : (s : Sheet) (r : Row) (n : ℕ) (o : Option Told) → placed s r ≡ true → o ≡ first_of (beneath s r) → first_of (line (is_some o) 32 n ∷ []) ≡ first_of (row_table n s r)
unfolding row_table
beneath_decides s r n o p e = ap (λ (x : Option Told). first_of (line (is_some x) 32 n ∷ [])) e ∙ sym (first_pass (line (not (placed s r)) 30 n) (below n s r) (not_from_true _ p))

pub undrawn_placed : (s : Stage) → ((a : Planned) → s ≡ Drawn a → ⊥) → is_drawn s ≡ false
undrawn_placed Rungs n = refl
undrawn_placed (Tasks l) n = refl
undrawn_placed (Drawn a) n = absurd (n a refl)
