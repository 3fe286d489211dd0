-- A record read back: the segments that were written.
use Rattle.std.proofs.Common.{◌≡◌, ℕ, zero, suc, ◌+◌, ◌-◌, ◌*◌, ◌/◌, ◌%◌, ◌<◌, ◌≤◌, leb, List, [], ◌∷◌, ◌++◌, length, take, drop, is_some, Some, None, Option, sym, refl, ap, ◌∙◌, inl, inr, arith}
use Rattle.model.specs.Plan.{segment}
use Rattle.model.specs.declared.segment.Segment.{Segment}
use Rattle.refusal.specs.Refusals.{Told, line, first_of}
use Rattle.refusal.proofs.Lines.{first_clear, first_pass}
use Rattle.std.proofs.lemmas.List.{append_assoc, take_at}
use Rattle.std.proofs.lemmas.Bool.Decides.{nat_tests}
use Rattle.std.proofs.lemmas.Bool.{leb-false, cases_lt}
use Rattle.record.specs.Got.{Got, got, after}
use Rattle.record.specs.Numbers.{groups, number_bytes, read_groups, read_number, carried}
use Rattle.record.specs.Writing.{segment_bytes, segments_bytes, record_bytes, joins, faults, or_else}
use Rattle.record.specs.Reading.{read_segment, read_segments, read_end, read_record, ahead}
use Rattle.record.proofs.Bodies.{to_segments}
use Rattle.record.proofs.Wholes.{same_kind}
use Rattle.record.proofs.Groups.{groups_one, groups_suc}
use Rattle.frame.proofs.Laid.{laid_there}
use Rattle.frame.specs.Laid.{laid}
use Rattle.record.proofs.Stretches.{joined_as, joins_short}

-- a number takes no more than k + 1 groups
abbrev short : ℕ → ℕ → Type 0
short zero n = n < 128
short (suc k) n = short k (n / 128)

read_one : (k n : ℕ) (tail : List ℕ) → n < 128 → read_groups (suc k) (n ∷ tail) ≡ got n tail
unfolding read_groups
read_one k n tail l = grind (arith, nat_tests)

read_more : (k b : ℕ) (tail : List ℕ) → 128 ≤ b → read_groups (suc k) (b ∷ tail) ≡ carried b (read_groups k tail)
unfolding read_groups
read_more k b tail l = grind (arith, nat_tests)

carried_on : (n : ℕ) (tail : List ℕ) → 128 ≤ n → carried (128 + n % 128) (got (n / 128) tail) ≡ got n tail
carried_on n tail l = let z : 0 < n / 128 = omega arith in let w : 128 + n % 128 - 128 + 128 * (n / 128) ≡ n = omega arith in grind (arith, nat_tests)

groups_back : (k n : ℕ) (tail : List ℕ) → short k n → read_groups (suc k) (groups k n ++ tail) ≡ got n tail
groups_back zero n tail l = ap (λ (xs : List ℕ). read_groups 1 (xs ++ tail)) (groups_one 0 n l) ∙ read_one 0 n tail l
groups_back (suc k) n tail l =
    elim (cases_lt n 128) [
      | inl h ↦ ap (λ (xs : List ℕ). read_groups (suc (suc k)) (xs ++ tail)) (groups_one (suc k) n h) ∙ read_one (suc k) n tail h
      | inr h ↦
          ap (λ (xs : List ℕ). read_groups (suc (suc k)) (xs ++ tail)) (groups_suc k n h)
          ∙ read_more (suc k) (128 + n % 128) (groups k (n / 128) ++ tail) (omega arith)
          ∙ ap (λ (g : Got ℕ). carried (128 + n % 128) g) (groups_back k (n / 128) tail l)
          ∙ carried_on n tail h
    ]

-- a number below 2 ^ 35 is read back
pub number_back : (n : ℕ) (tail : List ℕ) → n < 34359738368 → got n tail ≡ read_number (number_bytes n ++ tail)
number_back n tail l =
    let s : n / 128 / 128 / 128 / 128 < 128 = omega arith in
    sym (groups_back 4 n tail s)

-- no refusal of two: none of either
neither : (o p : Option Told) → or_else o p ≡ None → (o ≡ None) × (p ≡ None)
neither (Some t) p e = cc
neither None p e = (refl, e)

-- a segment with no fault is read back
segment_back : (steps before sum : ℕ) (s : Segment) (tail : List ℕ) → steps ≤ 16 → first_of (line (leb steps s.step) 21 0 ∷ joins before sum s) ≡ None
    → got s tail ≡ read_segment steps before sum (segment_bytes s ++ tail)
unfolding segment segment_bytes
segment_back steps before sum s tail h e =
    let a = first_clear (line (leb steps s.step) 21 0) (joins before sum s) (ap is_some e) in
    let l = leb-false steps s.step a.0 in
    let j : None ≡ first_of (joins before sum s) = sym e ∙ first_pass (line (leb steps s.step) 21 0) (joins before sum s) a.0 in
    let t = joins_short before sum s j in
    joined_as steps before sum s.step s.ticks (number_bytes s.step ++ (number_bytes s.ticks ++ tail)) (number_bytes s.ticks ++ tail) tail None
    (number_back s.step (number_bytes s.ticks ++ tail) (omega arith)) l (number_back s.ticks tail (omega arith)) j
    ∙ ap (λ (xs : List ℕ). read_segment steps before sum xs) (sym (append_assoc (number_bytes s.step) (number_bytes s.ticks) tail))

segments_back : (steps before sum : ℕ) (ss : List Segment) → steps ≤ 16 → faults steps before sum ss ≡ None → read_segments (length ss) steps before sum (segments_bytes ss) ≡ got ss []
unfolding read_segments read_end segments_bytes faults
segments_back steps before sum [] h e = refl
segments_back steps before sum (s ∷ ss) h e =
    let n = neither (first_of (line (leb steps s.step) 21 0 ∷ joins before sum s)) (faults steps s.step (sum + s.ticks) ss) e in
    ap (λ (g : Got Segment). after g (λ x rest. ahead x (read_segments (length ss) steps x.step (sum + x.ticks) rest))) (sym (segment_back steps before sum s (segments_bytes ss) h n.0))
    ∙ ap (λ (g : Got (List Segment)). ahead s g) (segments_back steps s.step (sum + s.ticks) ss h n.1)

-- a record with no fault is read back, where there is room
pub record_back : (kind steps room : ℕ) (ss : List Segment) → steps ≤ 16 → length ss ≤ 1024 → length ss ≤ room → faults steps steps 0 ss ≡ None
    → read_record kind steps room (record_bytes kind ss) ≡ got ss []
unfolding record_bytes
record_back kind steps room ss h l m e =
    same_kind kind steps steps room kind (record_bytes kind ss) (number_bytes (length ss) ++ segments_bytes ss) refl refl refl
    ∙ to_segments steps room (length ss) (number_bytes (length ss) ++ segments_bytes ss) (segments_bytes ss) (number_back (length ss) (segments_bytes ss) (omega arith)) l m
    ∙ segments_back steps steps 0 ss h e

-- what was laid is what is found
pub laid_back : (at n : ℕ) (bytes frame : List ℕ) → at ≤ length frame → n ≡ length bytes → take n (drop at (laid at bytes frame)) ≡ bytes
laid_back at n bytes frame l e = ap (λ (xs : List ℕ). take n xs) (laid_there at bytes frame l) ∙ take_at bytes (drop (at + length bytes) frame) n (sym e)
