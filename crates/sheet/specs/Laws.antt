-- The law of sheets: what is printed of a ladder and jobs reads as them, and nothing else reads as them.
use Rattle.std.specs.Prelude.{◌≡◌, ℕ, ◌≤◌, true, false, List, [], ◌∷◌, ◌++◌, map, length, drop, Ok, Err, Result}
use Rattle.model.specs.Speed.{want}
use Rattle.model.specs.Steps.{Lawful}
use Rattle.model.specs.declared.job.Job.{Job}
use Rattle.model.specs.declared.step.Step.{Step}
use Rattle.queue.specs.Queues.{standing}
use Rattle.grammar.specs.Pieces.{line_feed}
use Rattle.grammar.specs.Rows.{row_text}
use Rattle.grammar.specs.declared.row.Row.{Row}
use Rattle.grammar.specs.declared.row.Row.TheVariants.{Rung, Task, Draw}
use Rattle.print.specs.Texts.{plan_text}
use Rattle.sheet.specs.Sheets.{said}
use Rattle.sheet.specs.declared.fault.Fault.{Fault}

-- rows as text, each on a line
unfoldable pub rows_text : List Row → List ℕ
rows_text [] = []
rows_text (r ∷ rs) = row_text r ++ (line_feed ∷ rows_text rs)

-- the sheet of a ladder and jobs: a T line for each step, a J line for each job, and P
unfoldable pub sheet_text : List Step → List Job → List ℕ
sheet_text steps jobs = rows_text (map Rung steps ++ (map Task jobs ++ (Draw ∷ [])))

-- a ladder, jobs that may stand in a book, and speed enough for them
pub record Plannable (steps : List Step) (jobs : List Job) : Type 0 where
  pub lawful : Lawful steps
  pub stands : standing jobs ≡ true
  pub few : length jobs ≤ 256
  pub able : want steps jobs ≡ false

-- a sheet that is printed from a ladder and jobs is accepted, and what is written is their plan
abbrev pub ReadsBack : List ℕ → List ℕ → List ℕ → Result ℕ Fault → Type 0
ReadsBack sheet entry exit answer =
    (steps : List Step) (jobs : List Job) → Plannable steps jobs → 16384 ≤ length entry → sheet ≡ sheet_text steps jobs
    → (answer ≡ Ok (length (plan_text steps jobs))) × (exit ≡ plan_text steps jobs ++ drop (length (plan_text steps jobs)) entry)

-- an accepted sheet is the one that is printed from the ladder and jobs that it says
abbrev pub IsPrinted : List ℕ → Result ℕ Fault → Type 0
IsPrinted sheet (Ok n) = Plannable (said sheet).steps (said sheet).jobs × (sheet ≡ sheet_text (said sheet).steps (said sheet).jobs)
IsPrinted sheet (Err e) = Unit {0}
