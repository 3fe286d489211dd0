-- How long texts are, and texts of lists part by part.
use Rattle.std.proofs.Common.{◌≡◌, ℕ, ◌+◌, ◌<◌, ◌≤◌, List, [], ◌∷◌, ◌++◌, length, get_or, take, drop, decimal, sym, refl, ap, ◌∙◌, arith}
use Rattle.std.proofs.lemmas.List.{append_assoc, append-nil, length-append, take_more, take-append-drop}
use Rattle.model.specs.declared.segment.Segment.{Segment}
use Rattle.refusal.specs.Refusals.{told}
use Rattle.print.specs.Texts.{segment_text, segments_text, energy_text, refused_text}

-- what stands for a segment past the last
abbrev pub no_segment : Segment
no_segment = record { step = 0; ticks = 0 }

pub segment_length : (s : Segment) → length (segment_text s) ≡ length (decimal s.step) + (1 + (length (decimal s.ticks) + 1))
unfolding segment_text
segment_length s =
    let a = length-append (decimal s.step) (32 ∷ (decimal s.ticks ++ (10 ∷ []))) in
    let b = length-append (decimal s.ticks) (10 ∷ []) in
    omega arith

pub energy_length : (e : ℕ) → length (energy_text e) ≡ 7 + (length (decimal e) + 1)
unfolding energy_text
energy_length e = let b = length-append (decimal e) (10 ∷ []) in omega arith

pub refused_length : (n l : ℕ) → length (refused_text (told n l)) ≡ 8 + (length (decimal n) + (1 + (length (decimal l) + 1)))
unfolding refused_text
refused_length n l =
    let a = length-append (decimal n) (32 ∷ (decimal l ++ (10 ∷ []))) in
    let b = length-append (decimal l) (10 ∷ []) in
    omega arith

pub segments_append : (xs ys : List Segment) → segments_text (xs ++ ys) ≡ segments_text xs ++ segments_text ys
unfolding segments_text
segments_append [] ys = refl
segments_append (x ∷ xs) ys = ap (λ (zs : List ℕ). segment_text x ++ zs) (segments_append xs ys) ∙ sym (append_assoc (segment_text x) (segments_text xs) (segments_text ys))

-- one segment more
pub segments_more : (xs : List Segment) (k : ℕ) → k < length xs → segments_text (take (k + 1) xs) ≡ segments_text (take k xs) ++ segment_text (get_or xs k no_segment)
unfolding segments_text
segments_more xs k l =
    ap segments_text (take_more xs k no_segment l)
    ∙ segments_append (take k xs) (get_or xs k no_segment ∷ [])
    ∙ ap (λ (zs : List ℕ). segments_text (take k xs) ++ zs) (append-nil (segment_text (get_or xs k no_segment)))

-- the first k take no more than all
pub segments_within : (xs : List Segment) (k : ℕ) → length (segments_text (take k xs)) ≤ length (segments_text xs)
segments_within xs k =
    let a = ap (λ (zs : List Segment). length (segments_text zs)) (take-append-drop k xs) in
    let b = ap length (segments_append (take k xs) (drop k xs)) in
    let c = length-append (segments_text (take k xs)) (segments_text (drop k xs)) in
    omega arith

-- and leave room for the next
pub next_segment : (xs : List Segment) (k : ℕ) → k < length xs → length (segments_text (take k xs)) + length (segment_text (get_or xs k no_segment)) ≤ length (segments_text xs)
next_segment xs k l =
    let a = ap length (segments_more xs k l) in
    let b = length-append (segments_text (take k xs)) (segment_text (get_or xs k no_segment)) in
    let c = segments_within xs (k + 1) in
    omega arith
