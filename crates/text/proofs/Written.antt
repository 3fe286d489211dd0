-- What a pen writes in several strokes.
use Rattle.std.proofs.Common.{◌≡◌, ℕ, ◌≤◌, List, [], ◌++◌, length, sym, refl, ap, ◌∙◌, subst, arith}
use Rattle.std.proofs.lemmas.List.{length-append}
use Rattle.frame.proofs.Laid.{laid_none, laid_on}
use Rattle.frame.specs.Laid.{laid}
use Rattle.text.specs.Writing.{Wrote}
use Rattle.text.specs.declared.pen.Pen.{Pen}

-- nothing is written yet
pub wrote_none : (a : Pen) → Wrote a a []
wrote_none a = record { same = refl; size = refl; place = omega arith; buffer = sym (laid_none a.at a.out.now) }

-- bytes behind those that were written
pub wrote_on : {a b c : Pen} {first second : List ℕ} → Wrote a b first → Wrote b c second → b.at ≤ length a.out.now → Wrote a c (first ++ second)
wrote_on {a} {b} {c} {first} {second} p q l =
    let n = length-append first second in
    let x = p.place in
    let y = q.place in
    record {
      same = q.same ∙ p.same;
      size = q.size ∙ p.size;
      place = omega arith;
      buffer =
          q.buffer
          ∙ ap (λ (xs : List ℕ). laid b.at second xs) p.buffer
          ∙ laid_on a.at b.at first second a.out.now x (omega arith);
    }

-- the same bytes, written otherwise
pub wrote_as : {a b : Pen} {bytes other : List ℕ} → Wrote a b bytes → bytes ≡ other → Wrote a b other
wrote_as {a} {b} w e = subst (λ (xs : List ℕ). Wrote a b xs) e w

-- written from the start of a buffer
pub wrote_first : {a b : Pen} {bytes : List ℕ} (frame : List ℕ) → Wrote a b bytes → a.at ≡ 0 → a.out.now ≡ frame → (b.at ≡ length bytes) × (b.out.now ≡ laid 0 bytes frame)
wrote_first {a} {b} {bytes} frame w z e =
    let p = w.place in (
      omega arith,
      w.buffer ∙ ap (λ (x : ℕ). laid x bytes a.out.now) z ∙ ap (λ (xs : List ℕ). laid 0 bytes xs) e,
    )
