-- A worked record: the plan of four segments, as bytes and back.
use Rattle.std.specs.Prelude.{◌≡◌, ℕ, List, [], ◌∷◌}
use Rattle.model.specs.Plan.{segment}
use Rattle.model.specs.declared.segment.Segment.{Segment}
use Rattle.record.specs.Got.{got}
use Rattle.record.specs.Writing.{record_bytes}
use Rattle.record.specs.Reading.{read_record}

-- 5,040 ticks each of the steps 0, 1, 0, 1
abbrev pub the_segments : List Segment
the_segments = segment 0 5040 ∷ (segment 1 5040 ∷ (segment 0 5040 ∷ (segment 1 5040 ∷ [])))

-- 01 04 00 B0 27 01 B0 27 00 B0 27 01 B0 27
abbrev pub the_bytes : List ℕ
the_bytes = 1 ∷ (4 ∷ (0 ∷ (176 ∷ (39 ∷ (1 ∷ (176 ∷ (39 ∷ (0 ∷ (176 ∷ (39 ∷ (1 ∷ (176 ∷ (39 ∷ [])))))))))))))

-- the bytes are the record of the segments by a processor of kind 1, and read back as them where it has two steps and there is room for four
pub record Worked : Type 0 where
  pub writes : record_bytes 1 the_segments ≡ the_bytes
  pub reads : read_record 1 2 4 the_bytes ≡ got the_segments []
