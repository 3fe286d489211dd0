-- So far: what is known when the first k segments of a record have been read.
use Rattle.std.proofs.Common.{◌≡◌, ℕ, suc, ◌+◌, ◌-◌, ◌<◌, ◌≤◌, true, List, [], ◌∷◌, ◌++◌, length, sym, refl, ap, ◌∙◌, subst, arith}
use Rattle.model.specs.Plan.{ticks_of}
use Rattle.model.specs.declared.segment.Segment.{Segment}
use Rattle.refusal.specs.Refusals.{Told}
use Rattle.std.proofs.lemmas.List.{append-nil, append_assoc, length_push, nil_from_length}
use Rattle.std.proofs.lemmas.Bool.{true≢false}
use Rattle.record.specs.Checks.{accepted}
use Rattle.record.specs.Got.{Got, got, refused, refuse, after}
use Rattle.record.specs.Writing.{segment_bytes, segments_bytes}
use Rattle.record.specs.Reading.{read_segment, read_segments, read_end, ahead}
use Rattle.record.specs.declared.segments.Tail.{Tail}
use Rattle.record.proofs.Measured.{bytes_push}
use Rattle.record.proofs.Ticking.{ticks_push, ticks_none}

-- segments before those that are read after them
abbrev pub prefixed : List Segment → Got (List Segment) → Got (List Segment)
prefixed ss g = after g (λ rest end. got (ss ++ rest) end)

pub record Sofar (bytes rest : List ℕ) (steps count k : ℕ) (tail : Tail) (ss : List Segment) : Type 0 where
  pub many : length ss ≡ k
  pub own : tail.steps ≡ steps
  pub reads : read_segments count steps steps 0 bytes ≡ prefixed ss (read_segments (count - k) steps tail.step tail.ticks rest)
  pub exact : bytes ≡ segments_bytes ss ++ rest
  pub sum : tail.ticks ≡ ticks_of ss

-- a plan gone on by a segment
pub record Longer (tail next : Tail) (s : Segment) : Type 0 where
  pub steps : next.steps ≡ tail.steps
  pub after : (next.step ≡ s.step) × (next.ticks ≡ tail.ticks + s.ticks)

prefixed_none : (g : Got (List Segment)) → g ≡ prefixed [] g
prefixed_none (got ss rest) = refl
prefixed_none (refused t) = refl

prefixed_ahead : (ss : List Segment) (s : Segment) (g : Got (List Segment)) → prefixed ss (ahead s g) ≡ prefixed (ss ++ (s ∷ [])) g
prefixed_ahead ss s (got rest end) = ap (λ (xs : List Segment). got xs end) (sym (append_assoc ss (s ∷ []) rest))
prefixed_ahead ss s (refused t) = refl

pub sofar_start : (bytes : List ℕ) (steps count : ℕ) (tail : Tail) → tail.steps ≡ steps → (tail.step ≡ steps) × (tail.ticks ≡ 0) → Sofar bytes bytes steps count 0 tail []
unfolding segments_bytes
sofar_start bytes steps count tail o e = record {
  many = refl;
  own = o;
  reads =
      let z : count ≡ count - 0 = omega arith in
      prefixed_none (read_segments count steps steps 0 bytes)
      ∙ ap (λ (n : ℕ). prefixed [] (read_segments n steps steps 0 bytes)) z
      ∙ ap (λ (x : ℕ). prefixed [] (read_segments (count - 0) steps x 0 bytes)) (sym e.0)
      ∙ ap (λ (x : ℕ). prefixed [] (read_segments (count - 0) steps tail.step x bytes)) (sym e.1);
  exact = refl;
  sum = e.1 ∙ sym ticks_none;
}

-- what the reading of the next segment gives
pub next_is : {bytes rest : List ℕ} {steps count k : ℕ} {tail : Tail} {ss : List Segment} {g : Got Segment} → Sofar bytes rest steps count k tail ss → k < count
    → g ≡ read_segment tail.steps tail.step tail.ticks rest
    → read_segments count steps steps 0 bytes
    ≡ prefixed ss (after g (λ s next. ahead s (read_segments (count - (k + 1)) steps s.step (tail.ticks + s.ticks) next)))
unfolding read_segments
next_is {bytes} {rest} {steps} {count} {k} {tail} {ss} {g} w l e =
    let n : count - k ≡ suc (count - (k + 1)) = omega arith in
    w.reads
    ∙ ap (λ (m : ℕ). prefixed ss (read_segments m steps tail.step tail.ticks rest)) n
    ∙ ap (λ (h : Got Segment). prefixed ss (after h (λ s next. ahead s (read_segments (count - (k + 1)) steps s.step (tail.ticks + s.ticks) next))))
    (ap (λ (x : ℕ). read_segment x tail.step tail.ticks rest) (sym w.own) ∙ sym e)

-- one more segment is read
pub sofar_on : {bytes rest next : List ℕ} {steps count k : ℕ} {tail tail' : Tail} {ss : List Segment} {s : Segment} → Sofar bytes rest steps count k tail ss → k < count
    → got s next ≡ read_segment tail.steps tail.step tail.ticks rest
    → rest ≡ segment_bytes s ++ next
    → Longer tail tail' s
    → Sofar bytes next steps count (k + 1) tail' (ss ++ (s ∷ []))
sofar_on {bytes} {rest} {next} {steps} {count} {k} {tail} {tail'} {ss} {s} w l e x t = record {
  many = omega (arith, w.many, length_push ss s);
  own = t.steps ∙ w.own;
  reads =
      next_is w l e
      ∙ prefixed_ahead ss s (read_segments (count - (k + 1)) steps s.step (tail.ticks + s.ticks) next)
      ∙ ap (λ (y : ℕ). prefixed (ss ++ (s ∷ [])) (read_segments (count - (k + 1)) steps y (tail.ticks + s.ticks) next)) (sym t.after.0)
      ∙ ap (λ (y : ℕ). prefixed (ss ++ (s ∷ [])) (read_segments (count - (k + 1)) steps tail'.step y next)) (sym t.after.1);
  exact =
      w.exact
      ∙ ap (λ (xs : List ℕ). segments_bytes ss ++ xs) x
      ∙ sym (append_assoc (segments_bytes ss) (segment_bytes s) next)
      ∙ ap (λ (xs : List ℕ). xs ++ next) (sym (bytes_push ss s));
  sum = omega (arith, t.after.1, w.sum, ticks_push ss s);
}

-- the same segments, otherwise written
pub sofar_as : {bytes rest : List ℕ} {steps count k : ℕ} {tail : Tail} {ss ss' : List Segment} → Sofar bytes rest steps count k tail ss → ss ≡ ss' → Sofar bytes rest steps count k tail ss'
sofar_as {bytes} {rest} {steps} {count} {k} {tail} w e = subst (λ (xs : List Segment). Sofar bytes rest steps count k tail xs) e w

-- the next segment is refused
pub sofar_refused : {bytes rest : List ℕ} {steps count k : ℕ} {tail : Tail} {ss : List Segment} {t : Told} → Sofar bytes rest steps count k tail ss → k < count
    → refused t ≡ read_segment tail.steps tail.step tail.ticks rest
    → read_segments count steps steps 0 bytes ≡ refused t
sofar_refused w l e = next_is w l e

-- all are read
at_end : {bytes rest : List ℕ} {steps count k : ℕ} {tail : Tail} {ss : List Segment} → Sofar bytes rest steps count k tail ss → count ≤ k
    → read_segments count steps steps 0 bytes ≡ prefixed ss (read_end rest)
unfolding read_segments
at_end {bytes} {rest} {steps} {count} {k} {tail} {ss} w l =
    let n : count - k ≡ 0 = omega arith in
    w.reads ∙ ap (λ (m : ℕ). prefixed ss (read_segments m steps tail.step tail.ticks rest)) n

-- and no byte is left
pub sofar_all : {bytes rest : List ℕ} {steps count k : ℕ} {tail : Tail} {ss : List Segment} → Sofar bytes rest steps count k tail ss → count ≤ k → length rest ≡ 0
    → (read_segments count steps steps 0 bytes ≡ got ss []) × (bytes ≡ segments_bytes ss)
unfolding read_end
sofar_all {bytes} {rest} {steps} {count} {k} {tail} {ss} w l h =
    let e = nil_from_length rest h in (
      at_end w l
          ∙ ap (λ (xs : List ℕ). prefixed ss (read_end xs)) e
          ∙ ap (λ (xs : List Segment). got xs []) (append-nil ss),
      w.exact ∙ ap (λ (xs : List ℕ). segments_bytes ss ++ xs) e ∙ append-nil (segments_bytes ss),
    )

-- bytes are left over
pub sofar_surplus : {bytes rest : List ℕ} {steps count k : ℕ} {tail : Tail} {ss : List Segment} → Sofar bytes rest steps count k tail ss → count ≤ k → (length rest ≡ 0 → ⊥)
    → read_segments count steps steps 0 bytes ≡ refuse 28
unfolding read_end
sofar_surplus {bytes} {rest} {steps} {count} {k} {tail} {ss} w l h = by rest h (at_end w l)
  where
    by : (xs : List ℕ) → (length xs ≡ 0 → ⊥) → read_segments count steps steps 0 bytes ≡ prefixed ss (read_end xs) → read_segments count steps steps 0 bytes ≡ refuse 28
    by [] n e = absurd (n refl)
    by (b ∷ xs) n e = e

-- a record that passes has no segment that is refused
pub sound_next : {g : Got (List Segment)} {t : Told} → accepted g ≡ true → g ≡ refused t → ⊥
sound_next a e = true≢false (sym a ∙ ap accepted e)

-- one that passes is read when its segments are
pub sound_all : {bytes rest : List ℕ} {steps count k : ℕ} {tail : Tail} {ss : List Segment} → Sofar bytes rest steps count k tail ss → count ≤ k
    → accepted (read_segments count steps steps 0 bytes) ≡ true → read_segments count steps steps 0 bytes ≡ got ss []
unfolding read_end
sound_all {bytes} {rest} {steps} {count} {k} {tail} {ss} w l a = by rest (at_end w l)
  where
    by : (xs : List ℕ) → read_segments count steps steps 0 bytes ≡ prefixed ss (read_end xs) → read_segments count steps steps 0 bytes ≡ got ss []
    by (b ∷ xs) e = absurd (sound_next a e)
    by [] e = e ∙ ap (λ (ys : List Segment). got ys []) (append-nil ss)
