-- What the accounts have paid and still owe while a plan is settled.
use Rattle.std.specs.Prelude.{ℕ, zero, suc, ◌+◌, List, [], ◌∷◌, ◌++◌, drop, slice_index}
use Rattle.model.specs.Charges.{charge_from, charge}
use Rattle.model.specs.declared.job.Job.{Job}
use Rattle.model.specs.declared.segment.Segment.{Segment}
use Rattle.model.specs.declared.step.Step.{Step}
use Rattle.charges.specs.declared.cursor.Cursor.{Cursor}

-- what stands in row a, and what account a pays for the segments from the cursor on
unfoldable pub owing : List Step → List Job → List ℕ → Cursor → List Segment → ℕ → ℕ
owing steps jobs rows at segments a = slice_index rows a + charge_from steps (drop at.job jobs) a at.grain segments

-- the first n rows, each with what its account pays for the segments
unfoldable pub settled : List Step → List Job → List Segment → List ℕ → ℕ → List ℕ
settled steps jobs segments rows zero = []
settled steps jobs segments rows (suc n) = settled steps jobs segments rows n ++ ((slice_index rows n + charge steps jobs segments n) ∷ [])
