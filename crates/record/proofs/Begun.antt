-- The record written: the kind, the number of segments, and then the segments, one after the other.
use Rattle.std.proofs.Common.{◌≡◌, ℕ, zero, suc, ◌+◌, ◌<◌, ◌≤◌, List, [], ◌∷◌, length, take, set, sym, refl, ap, arith}
use Rattle.model.specs.declared.segment.Segment.{Segment}
use Rattle.std.proofs.lemmas.List.{length-append, length-set, take_all}
use Rattle.record.specs.Numbers.{number_bytes}
use Rattle.frame.specs.Laid.{laid}
use Rattle.record.specs.Writing.{segment_bytes, segments_bytes, record_bytes}
use Rattle.frame.proofs.Laid.{laid_one, laid_none, Put, put_on, put_as}
use Rattle.record.proofs.Measured.{at, bytes_more, bytes_of}

-- the first k segments are written behind the head of the record
pub record Begun (start end k : ℕ) (segs : List Segment) (frame now : List ℕ) : Type 0 where
  pub put : Put frame now start end (segments_bytes (take k segs))
  pub room : start + length (segments_bytes segs) ≤ length frame
  pub long : length now ≡ length frame

taken_le : (k : ℕ) (segs : List Segment) → length (segments_bytes (take k segs)) ≤ length (segments_bytes segs)
unfolding segments_bytes
taken_le zero segs = omega arith
taken_le (suc k) [] = omega arith
taken_le (suc k) (s ∷ segs) =
    omega (arith, taken_le k segs, length-append (segment_bytes s) (segments_bytes (take k segs)), length-append (segment_bytes s) (segments_bytes segs))

-- there is room for the kind, the number and the segments
pub room_for : (kind offset : ℕ) (segs : List Segment) (frame : List ℕ) → offset + length (record_bytes kind segs) ≤ length frame
    → offset + 1 + length (number_bytes (length segs)) + length (segments_bytes segs) ≤ length frame
unfolding record_bytes
room_for kind offset segs frame l = omega (arith, length-append (number_bytes (length segs)) (segments_bytes segs))

-- there is room for a segment
pub room_next : {start end k : ℕ} {segs : List Segment} {frame now : List ℕ} → Begun start end k segs frame now → k < length segs
    → end + (length (number_bytes (at segs k).step) + length (number_bytes (at segs k).ticks)) ≤ length now
room_next {start} {end} {k} {segs} {frame} {now} w h =
    omega (arith, w.put.place, w.room, w.long, taken_le (k + 1) segs, ap length (bytes_more k segs h), length-append (segments_bytes (take k segs)) (segment_bytes (at segs k)), bytes_of (at segs k))

-- no segment is written
pub begun_none : (start : ℕ) (segs : List Segment) (frame : List ℕ) → start + length (segments_bytes segs) ≤ length frame → Begun start start 0 segs frame frame
unfolding segments_bytes
begun_none start segs frame l = record { put = record { place = omega arith; bytes = sym (laid_none start frame) }; room = l; long = refl }

-- one more segment is written
pub begun_on : {start end k mid after : ℕ} {segs : List Segment} {frame now next last : List ℕ} → Begun start end k segs frame now → k < length segs
    → Put now next end mid (number_bytes (at segs k).step) → Put next last mid after (number_bytes (at segs k).ticks) → length next ≡ length now → length last ≡ length next
    → Begun start after (k + 1) segs frame last
unfolding segment_bytes
begun_on {start} {end} {k} {mid} {after} {segs} {frame} {now} {next} {last} w h p q m n =
    let r = room_next w h in
    record {
      put =
          put_as (put_on w.put (put_on p q (omega (arith, p.place))) (omega (arith, w.long)))
          (sym (bytes_more k segs h));
      room = w.room;
      long = omega (arith, w.long);
    }

-- all are written
pub begun_all : (kind offset : ℕ) (frame : List ℕ) {start end k : ℕ} {segs : List Segment} {first now : List ℕ} → offset + length (record_bytes kind segs) ≤ length frame
    → Put (set frame offset kind) first (offset + 1) start (number_bytes (length segs)) → Begun start end k segs first now → length segs ≤ k
    → now ≡ laid offset (record_bytes kind segs) frame
unfolding record_bytes
begun_all kind offset frame {start} {end} {k} {segs} {first} {now} l p w h =
    let r = room_for kind offset segs frame l in
    let s = length-set frame offset kind in
    let one : Put frame (set frame offset kind) offset (offset + 1) (kind ∷ []) = record { place = refl; bytes = laid_one offset kind frame (omega arith) } in
    (put_on one (put_on p (put_as w.put (ap segments_bytes (take_all k segs h))) (omega (arith, p.place))) (omega arith)).bytes
