-- A plan gone through before it is written: what is left has the first fault, and the bytes of what is past are counted.
use Rattle.std.proofs.Common.{◌≡◌, ℕ, ◌+◌, ◌*◌, ◌<◌, ◌≤◌, leb, ◌⊎◌, List, [], ◌∷◌, ◌++◌, length, get_or, take, drop, Some, None, Ok, Err, Option, Result, sym, refl, ap, ◌∙◌, inl, inr, arith}
use Rattle.model.specs.declared.segment.Segment.{Segment}
use Rattle.refusal.specs.Refusals.{Told, told, line, first_of}
use Rattle.refusal.proofs.Lines.{first_pass, first_hit}
use Rattle.std.proofs.lemmas.List.{append_assoc, append-nil, length-append, drop_more, drop_all, take_more, take_all}
use Rattle.std.proofs.lemmas.Bool.Decides.{nat_tests}
use Rattle.std.proofs.lemmas.Bool.{le-leb, lt-leb, cases_lt}
use Rattle.record.specs.Numbers.{number_bytes}
use Rattle.record.specs.Writing.{segment_bytes, segments_bytes, record_bytes, joins, faults, or_else, passed}
use Rattle.record.proofs.Groups.{number_most}

-- a segment of a list, and what stands for one past its end
abbrev pub at : List Segment → ℕ → Segment
at segs k = get_or segs k (record { step = 0; ticks = 0 })

pub record Measured (steps k before ticks long : ℕ) (segs : List Segment) : Type 0 where
  pub left : faults steps before ticks (drop k segs) ≡ faults steps steps 0 segs
  pub bytes : long ≡ 1 + (length (number_bytes (length segs)) + length (segments_bytes (take k segs)))
  pub few : long ≤ 6 + 10 * k

pub bytes_push : (ss : List Segment) (s : Segment) → segments_bytes (ss ++ (s ∷ [])) ≡ segments_bytes ss ++ segment_bytes s
unfolding segments_bytes
bytes_push [] s = append-nil (segment_bytes s)
bytes_push (x ∷ ss) s =
    ap (λ (xs : List ℕ). segment_bytes x ++ xs) (bytes_push ss s) ∙ sym (append_assoc (segment_bytes x) (segments_bytes ss) (segment_bytes s))

-- the bytes of the first k + 1 segments
pub bytes_more : (k : ℕ) (segs : List Segment) → k < length segs → segments_bytes (take (k + 1) segs) ≡ segments_bytes (take k segs) ++ segment_bytes (at segs k)
bytes_more k segs l = ap segments_bytes (take_more segs k (record { step = 0; ticks = 0 }) l) ∙ bytes_push (take k segs) (at segs k)

-- a segment's bytes are those of its two numbers
pub bytes_of : (s : Segment) → length (segment_bytes s) ≡ length (number_bytes s.step) + length (number_bytes s.ticks)
unfolding segment_bytes
bytes_of s = length-append (number_bytes s.step) (number_bytes s.ticks)

pub measured_start : {steps before ticks n : ℕ} {segs : List Segment} → (before ≡ steps) × (ticks ≡ 0) → n ≡ length (number_bytes (length segs)) → Measured steps 0 before ticks (1 + n) segs
unfolding segments_bytes
measured_start {steps} {before} {ticks} {n} {segs} b e = record {
  left = ap (λ (x : ℕ). faults steps x ticks segs) b.0 ∙ ap (λ (x : ℕ). faults steps steps x segs) b.1;
  bytes = omega arith;
  few = omega (arith, number_most n (length segs) e);
}

faults_at : (steps k before ticks : ℕ) (segs : List Segment) → k < length segs
    → faults steps before ticks (drop k segs)
    ≡ or_else (first_of (line (leb steps (at segs k).step) 21 0 ∷ joins before ticks (at segs k))) (faults steps (at segs k).step (ticks + (at segs k).ticks) (drop (k + 1) segs))
unfolding faults
faults_at steps k before ticks segs l = ap (λ (ss : List Segment). faults steps before ticks ss) (drop_more segs k (record { step = 0; ticks = 0 }) l)

-- the first of the lines passes where the step is there
joins_only : (steps before ticks : ℕ) (s : Segment) → s.step < steps → first_of (line (leb steps s.step) 21 0 ∷ joins before ticks s) ≡ first_of (joins before ticks s)
joins_only steps before ticks s l = first_pass (line (leb steps s.step) 21 0) (joins before ticks s) (lt-leb steps s.step l)

-- one segment on
pub measured_on : {steps k before ticks long before' ticks' n m : ℕ} {segs : List Segment} → Measured steps k before ticks long segs → k < length segs → (at segs k).step < steps
    → None ≡ first_of (joins before ticks (at segs k)) → (before' ≡ (at segs k).step) × (ticks' ≡ ticks + (at segs k).ticks)
    → n ≡ length (number_bytes (at segs k).step) → m ≡ length (number_bytes (at segs k).ticks)
    → Measured steps (k + 1) before' ticks' (long + (n + m)) segs
measured_on {steps} {k} {before} {ticks} {long} {before'} {ticks'} {n} {m} {segs} w l h j b p q = record {
  left =
      ap (λ (x : ℕ). faults steps x ticks' (drop (k + 1) segs)) b.0
      ∙ ap (λ (x : ℕ). faults steps (at segs k).step x (drop (k + 1) segs)) b.1
      ∙ ap (λ (o : Option Told). or_else o (faults steps (at segs k).step (ticks + (at segs k).ticks) (drop (k + 1) segs))) (j ∙ sym (joins_only steps before ticks (at segs k) h))
      ∙ sym (faults_at steps k before ticks segs l)
      ∙ w.left;
  bytes =
      omega (arith, w.bytes, ap length (bytes_more k segs l), length-append (segments_bytes (take k segs)) (segment_bytes (at segs k)), bytes_of (at segs k));
  few = omega (arith, w.few, number_most n (at segs k).step p, number_most m (at segs k).ticks q);
}

-- a fault is the answer
faulty : (steps : ℕ) (segs : List Segment) (t : Told) (r : Result ℕ Told) → length segs ≤ 1024 → faults steps steps 0 segs ≡ Some t → Err t ≡ passed steps segs r
faulty steps segs t r l e =
    grind (arith, nat_tests)

-- and where there is none, what follows
faultless : (steps : ℕ) (segs : List Segment) (r : Result ℕ Told) → length segs ≤ 1024 → faults steps steps 0 segs ≡ None → passed steps segs r ≡ r
faultless steps segs r l e = grind (arith, nat_tests)

pub too_long : (steps : ℕ) (segs : List Segment) (r : Result ℕ Told) → 1024 < length segs → Err (told 20 0) ≡ passed steps segs r
too_long steps segs r l = grind (arith, nat_tests)

pub measured_lacking : {steps k before ticks long : ℕ} {segs : List Segment} → Measured steps k before ticks long segs → (r : Result ℕ Told) → length segs ≤ 1024 → k < length segs
    → steps ≤ (at segs k).step → Err (told 21 0) ≡ passed steps segs r
measured_lacking {steps} {k} {before} {ticks} {long} {segs} w r b l h =
    faulty steps segs (told 21 0) r b
    (sym w.left
    ∙ faults_at steps k before ticks segs l
    ∙ ap (λ (o : Option Told). or_else o (faults steps (at segs k).step (ticks + (at segs k).ticks) (drop (k + 1) segs)))
    (first_hit (line (leb steps (at segs k).step) 21 0) (joins before ticks (at segs k)) (le-leb steps (at segs k).step h)))

pub measured_unjoined : {steps k before ticks long : ℕ} {segs : List Segment} {t : Told} → Measured steps k before ticks long segs → (r : Result ℕ Told) → length segs ≤ 1024
    → k < length segs → (at segs k).step < steps → Some t ≡ first_of (joins before ticks (at segs k))
    → Err t ≡ passed steps segs r
measured_unjoined {steps} {k} {before} {ticks} {long} {segs} {t} w r b l h j =
    faulty steps segs t r b
    (sym w.left
    ∙ faults_at steps k before ticks segs l
    ∙ ap (λ (o : Option Told). or_else o (faults steps (at segs k).step (ticks + (at segs k).ticks) (drop (k + 1) segs))) (joins_only steps before ticks (at segs k) h ∙ sym j))

-- no fault, and all bytes counted
pub measured_all : {steps k before ticks long : ℕ} {segs : List Segment} → Measured steps k before ticks long segs → length segs ≤ 1024 → length segs ≤ k
    → Ok long ≡ passed steps segs (Ok (length (record_bytes 0 segs)))
unfolding faults record_bytes
measured_all {steps} {k} {before} {ticks} {long} {segs} w b l =
    let n : faults steps steps 0 segs ≡ None = sym w.left ∙ ap (λ (ss : List Segment). faults steps before ticks ss) (drop_all k segs l) in
    let c = ap (λ (ss : List Segment). length (segments_bytes ss)) (take_all k segs l) in
    let m : long ≡ length (record_bytes 0 segs) = omega (arith, w.bytes, length-append (number_bytes (length segs)) (segments_bytes segs)) in
    ap (λ (x : ℕ). Ok x) m ∙ sym (faultless steps segs (Ok (length (record_bytes 0 segs))) b n)

-- whatever would follow, a plan is refused by one fault, or by none
pub passed_ways : (steps : ℕ) (segs : List Segment)
    → ((t : Told) × ((r : Result ℕ Told) → passed steps segs r ≡ Err t))
    ⊎ (((r : Result ℕ Told) → passed steps segs r ≡ r) × (length segs ≤ 1024) × (faults steps steps 0 segs ≡ None))
passed_ways steps segs =
    elim (cases_lt 1024 (length segs)) [ inl l ↦ inl (told 20 0, λ r. sym (too_long steps segs r l)) | inr l ↦ by l (faults steps steps 0 segs) refl ]
  where
    by : length segs ≤ 1024 → (o : Option Told) → faults steps steps 0 segs ≡ o
        → ((t : Told) × ((r : Result ℕ Told) → passed steps segs r ≡ Err t))
        ⊎ (((r : Result ℕ Told) → passed steps segs r ≡ r) × (length segs ≤ 1024) × (faults steps steps 0 segs ≡ None))
    by l (Some t) e = inl (t, λ r. sym (faulty steps segs t r l e))
    by l None e = inr ((λ r. faultless steps segs r l e), l, e)

-- a plan that passes has the count that was asked for, and passes whatever follows
pub passed_ok : (steps n m : ℕ) (segs : List Segment) → Ok n ≡ passed steps segs (Ok m)
    → (n ≡ m) × ((r : Result ℕ Told) → passed steps segs r ≡ r) × (length segs ≤ 1024) × (faults steps steps 0 segs ≡ None)
passed_ok steps n m segs e =
    elim (passed_ways steps segs) [
      | inl w ↦ let f : Ok n ≡ Err w.0 = e ∙ w.1 (Ok m) in let z : ⊥ = cc in absurd z
      | inr w ↦ let f : Ok n ≡ Ok m = e ∙ w.0 (Ok m) in (cc, w.0, w.1, w.2)
    ]
