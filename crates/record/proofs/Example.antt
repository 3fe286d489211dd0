-- The worked record, written and read back by computing.
use Rattle.std.proofs.Common.{refl}
use Rattle.model.specs.Plan.{segment}
use Rattle.record.specs.Numbers.{groups, read_groups}
use Rattle.record.specs.Writing.{record_bytes, segments_bytes, segment_bytes}
use Rattle.record.specs.Reading.{read_record, read_body, with_count, read_segments, read_segment, read_end}
use Rattle.record.specs.Example.{Worked}

pub worked : Worked
unfolding record_bytes segments_bytes segment_bytes groups segment read_record read_body with_count read_segments read_segment read_end read_groups
worked = record { writes = refl; reads = refl }
