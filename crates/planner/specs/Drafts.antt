-- What a draft means: its segments.
use Rattle.std.specs.Prelude.{List}
use Rattle.model.specs.declared.segment.Segment.{Segment}
use Rattle.draw.specs.Gathered.{listed}
use Rattle.planner.specs.declared.draft.Draft.{Draft}

-- the segments of a draft
abbrev pub segments_of : Draft → List Segment
segments_of d = listed d.drawing
