-- Segments as a person reads them.
use Rattle.std.specs.Prelude.{ℕ, List, ◌++◌, codes, decimal}
use Rattle.model.specs.declared.segment.Segment.{Segment}

-- a segment's step and ticks, with a colon between them
abbrev pub segment_words : Segment → List ℕ
segment_words s = decimal s.step ++ (codes ":" ++ decimal s.ticks)
