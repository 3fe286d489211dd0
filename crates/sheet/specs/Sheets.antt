-- What a sheet says line by line, and the table of its refusals.
use Rattle.std.specs.Prelude.{ℕ, suc, Bool, true, false, not, ◌&&◌, List, [], ◌∷◌, ◌++◌, length, replicate, is_some, Some, None, Option, ◌==◌, nat_lt}
use Rattle.model.specs.Plan.{segment}
use Rattle.model.specs.declared.job.Job.{Job}
use Rattle.model.specs.declared.segment.Segment.{Segment}
use Rattle.model.specs.declared.step.Step.{Step}
use Rattle.processor.specs.Rules.{step_lines}
use Rattle.book.specs.Calls as calls
use Rattle.book.specs.Calls.{State}
use Rattle.book.specs.Calls.Call.{enters, plans}
use Rattle.grammar.specs.Pieces as grammar
use Rattle.grammar.specs.Rows.{row_of}
use Rattle.grammar.specs.declared.row.Row.{Row}
use Rattle.grammar.specs.declared.row.Row.TheVariants.{Rung, Task, Draw}
use Rattle.refusal.specs.Refusals.{Line, line, first_of}

-- what a sheet has said so far: the steps of its ladder, the jobs of its book, and whether the plan is drawn
pub record Sheet : Type 0 where
  pub steps : List Step
  pub jobs : List Job
  pub drawn : Bool

abbrev pub blank : Sheet
blank = record { steps = []; jobs = []; drawn = false }

-- one row more
abbrev pub with_row : Sheet → Row → Sheet
with_row s (Rung v) = record { steps = s.steps ++ (v ∷ []); jobs = s.jobs; drawn = s.drawn }
with_row s (Task j) = record { steps = s.steps; jobs = s.jobs ++ (j ∷ []); drawn = s.drawn }
with_row s Draw = record { steps = s.steps; jobs = s.jobs; drawn = true }

abbrev pub with_said : Sheet → Option Row → Sheet
with_said s None = s
with_said s (Some r) = with_row s r

-- whether a row stands in its place: nothing after the plan is drawn, and at most 16 steps, all before the first job
abbrev pub placed : Sheet → Row → Bool
placed s (Rung v) = not s.drawn && (length s.jobs == 0 && nat_lt (length s.steps) 16)
placed s (Task j) = not s.drawn
placed s Draw = not s.drawn

-- a book of jobs, and room for any plan
abbrev pub desk : List Job → State
desk jobs = record { number = 0; jobs = jobs; held = None; charges = replicate 65 0 }

abbrev pub room : List Segment
room = replicate 1024 (segment 0 0)

-- the table of the ladder of so many steps as there are
unfoldable pub ladder_lines : List Step → List Line
ladder_lines steps = step_lines steps (length steps)

-- the table of the ladder, and then of the book, by which a row is refused: the ladder is made before the first job or the plan
abbrev pub beneath : Sheet → Row → List Line
beneath s (Rung v) = []
beneath s (Task j) = ladder_lines s.steps ++ calls.lines (desk s.jobs) (enters j)
beneath s Draw = ladder_lines s.steps ++ calls.lines (desk s.jobs) (plans s.steps room)

-- the table of a row of line n: out of place; refused by the ladder or the book
unfoldable pub row_table : ℕ → Sheet → Row → List Line
row_table n s r = line (not (placed s r)) 30 n ∷ (line (is_some (first_of (beneath s r))) 32 n ∷ [])

-- the table of what line n says: malformed where it says nothing
abbrev pub said_table : ℕ → Sheet → Option Row → List Line
said_table n s None = line true 30 n ∷ []
said_table n s (Some r) = row_table n s r

-- the table of line n: over 64 bytes with the one that ends it; what it says
unfoldable pub line_table : ℕ → Sheet → List ℕ → List Line
line_table n s text = line (nat_lt 63 (length text)) 31 n ∷ said_table n s (row_of text)

-- the end, with so many bytes left: the plan is drawn, and none is
abbrev pub end_table : ℕ → Sheet → ℕ → List Line
end_table n s left = line (not (s.drawn && left == 0)) 30 n ∷ []

-- the tables of all lines from number n on, and of what stands after them
unfoldable pub lines_table : ℕ → Sheet → List (List ℕ) → List Line
lines_table n s [] = []
lines_table n s (rest ∷ []) = end_table n s (length rest)
lines_table n s (text ∷ (next ∷ more)) = line_table n s text ++ lines_table (suc n) (with_said s (row_of text)) (next ∷ more)

-- the table of a sheet that is read into an output buffer of so many bytes
unfoldable pub sheet_table : ℕ → List ℕ → List Line
sheet_table size bytes =
    line (nat_lt 32768 (length bytes)) 33 0 ∷ (line (nat_lt size 16384) 24 0 ∷ lines_table 1 blank (grammar.lines bytes))

-- what lines say in all
unfoldable pub said_by : Sheet → List (List ℕ) → Sheet
said_by s [] = s
said_by s (text ∷ texts) = said_by (with_said s (row_of text)) texts

-- what a sheet says
abbrev pub said : List ℕ → Sheet
said bytes = said_by blank (grammar.lines bytes)
