-- What a page means, and what holds of it while a sheet is read.
use Rattle.std.specs.Prelude.{◌≡◌, ◌<◌, ◌≤◌, Bool, true, false, List, [], length, take, None}
use Rattle.model.specs.Charges.{cost}
use Rattle.model.specs.Plan.{plan}
use Rattle.model.specs.Speed.{want}
use Rattle.model.specs.declared.segment.Segment.{Segment}
use Rattle.planner.specs.declared.plan.Planned.{Planned}
use Rattle.processor.specs.Meanings.{ladder_steps}
use Rattle.processor.specs.declared.ladder.Ladder.{Ladder}
use Rattle.book.specs.Books.{state}
use Rattle.refusal.specs.Refusals.{first_of}
use Rattle.sheet.specs.Sheets.{Sheet, desk, ladder_lines}
use Rattle.sheet.specs.declared.page.Page.TheInside.{Inside}
use Rattle.sheet.specs.declared.page.Stage.{Stage}
use Rattle.sheet.specs.declared.page.Stage.TheVariants.{Rungs, Tasks, Drawn}

-- whether the plan is drawn
abbrev pub is_drawn : Stage → Bool
is_drawn Rungs = false
is_drawn (Tasks l) = false
is_drawn (Drawn a) = true

-- the sheet as far as it is read
abbrev pub sheet_of : Inside → Sheet
sheet_of p = record { steps = p.steps.items; jobs = (state p.book).jobs; drawn = is_drawn p.stage }

-- jobs stand only once the ladder is made, which no rule forbids
pub record Tasking (s : Sheet) (l : Ladder) : Type 0 where
  pub busy : 0 < length s.jobs
  pub ladder : ladder_steps l ≡ s.steps
  pub lawful : first_of (ladder_lines s.steps) ≡ None

-- the plan, once it is drawn
pub record Planning (s : Sheet) (a : Planned) (segments : List Segment) : Type 0 where
  pub lawful : first_of (ladder_lines s.steps) ≡ None
  pub able : want s.steps s.jobs ≡ false
  pub plan : take a.segments segments ≡ plan s.steps s.jobs
  pub count : a.segments ≤ 1024
  pub energy : a.energy ≡ cost s.steps s.jobs

-- what holds at each stage
abbrev pub Reached : Stage → Sheet → List Segment → Type 0
Reached Rungs s segments = s.jobs ≡ []
Reached (Tasks l) s segments = Tasking s l
Reached (Drawn a) s segments = Planning s a segments

-- what is kept from line to line
pub record Good (p : Inside) : Type 0 where
  pub segments : length p.segments ≡ 1024
  pub few : length p.steps.items ≤ 16
  -- the book has jobs, and nothing else happened to it
  pub book : state p.book ≡ desk (sheet_of p).jobs
  pub stage : Reached p.stage (sheet_of p) p.segments
