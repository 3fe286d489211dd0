-- Writing a number from its last digit on: what is written so far, and what is left to write before it.
use Rattle.std.proofs.Common.{◌≡◌, ℕ, suc, ◌+◌, ◌-◌, ◌/◌, ◌%◌, ◌^◌, ◌<◌, ◌≤◌, List, [], ◌∷◌, ◌++◌, length, take, drop, set, decimal, sym, ap, ◌∙◌, inl, inr, arith}
use Rattle.frame.proofs.Laid.{laid_none}
use Rattle.frame.specs.Laid.{laid}
use Rattle.std.proofs.lemmas.Bool.{cases_lt}
use Rattle.std.proofs.lemmas.Fmt.{decimal_digit, decimal_step, decimal_nonempty}
use Rattle.std.proofs.lemmas.List.{append_assoc, append-nil, length-append, length_push, length-take-le, set-append_left, set_split, take-take, drop_all}

-- a byte before bytes that are laid
pub laid_before : (p b : ℕ) (bytes frame : List ℕ) → p < length frame → set (laid (p + 1) bytes frame) p b ≡ laid p (b ∷ bytes) frame
laid_before p b bytes frame l =
    let n : length (take (p + 1) frame) ≡ p + 1 = length-take-le (p + 1) frame (omega arith) in
    let front : set (take (p + 1) frame) p b ≡ take p frame ++ (b ∷ []) =
    set_split (take (p + 1) frame) p b (omega arith)
    ∙ ap (λ (xs : List ℕ). xs ++ (b ∷ drop (suc p) (take (p + 1) frame))) (take-take p (p + 1) frame (omega arith))
    ∙ ap (λ (xs : List ℕ). take p frame ++ (b ∷ xs)) (drop_all (suc p) (take (p + 1) frame) (omega arith)) in
    let m : p + 1 + length bytes ≡ p + suc (length bytes) = omega arith in
    set-append_left (take (p + 1) frame) (bytes ++ drop (p + 1 + length bytes) frame) p b (omega arith)
    ∙ ap (λ (xs : List ℕ). xs ++ (bytes ++ drop (p + 1 + length bytes) frame)) front
    ∙ append_assoc (take p frame) (b ∷ []) (bytes ++ drop (p + 1 + length bytes) frame)
    ∙ ap (λ (x : ℕ). take p frame ++ (b ∷ (bytes ++ drop x frame))) m

-- the last digits are written from a place on, and those of the rest are to come before it
pub record Spelled (frame out : List ℕ) (at n place rest : ℕ) : Type 0 where
  pub tail : List ℕ
  pub above : at ≤ place
  pub written : out ≡ laid place tail frame
  pub reach : place + length tail ≡ at + length (decimal n)
  pub ahead : at < place → decimal n ≡ decimal rest ++ tail
  pub whole : place ≡ at → tail ≡ decimal n
  pub small : rest < 2 ^ 64

pub nothing_yet : (frame : List ℕ) (at n end : ℕ) → n < 2 ^ 64 → end ≡ at + length (decimal n) → Spelled frame frame at n end n
nothing_yet frame at n end s e =
    let d = decimal_nonempty n s in
    record {
      tail = [];
      above = omega arith;
      written = sym (laid_none end frame);
      reach = omega arith;
      ahead = λ _. sym (append-nil (decimal n));
      whole = λ z. absurd (omega arith);
      small = s;
    }

-- one digit more
pub digit_by : (frame out : List ℕ) (at n place rest : ℕ) → Spelled frame out at n place rest → at + length (decimal n) ≤ length frame → at < place
    → Spelled frame (set out (place - 1) (48 + rest % 10)) at n (place - 1) (rest / 10)
digit_by frame out at n place rest w f l =
    let q = place - 1 in
    let b = 48 + rest % 10 in
    let r = w.reach in
    let a = w.ahead l in
    let k = ap length a ∙ length-append (decimal rest) w.tail in
    let e : place ≡ q + 1 = omega arith in
    record {
      tail = b ∷ w.tail;
      above = omega arith;
      written =
          ap (λ (xs : List ℕ). set xs q b) (w.written ∙ ap (λ (x : ℕ). laid x w.tail frame) e)
          ∙ laid_before q b w.tail frame (omega arith);
      reach = omega arith;
      ahead = λ m. elim (cases_lt rest 10) [
        | inr t ↦
            a
            ∙ ap (λ (xs : List ℕ). xs ++ w.tail) (decimal_step rest t w.small)
            ∙ append_assoc (decimal (rest / 10)) (b ∷ []) w.tail
        | inl t ↦ let d = ap length (decimal_digit rest t) in absurd (omega arith)
      ];
      whole = λ z. elim (cases_lt rest 10) [
        | inr t ↦
            let s = w.small in
            let d = ap length (decimal_step rest t s) ∙ length_push (decimal (rest / 10)) b in
            let some = decimal_nonempty (rest / 10) (omega arith) in
            absurd (omega arith)
        | inl t ↦
            let m : b ≡ 48 + rest = omega arith in
            ap (λ (x : ℕ). x ∷ w.tail) m ∙ sym (a ∙ ap (λ (xs : List ℕ). xs ++ w.tail) (decimal_digit rest t))
      ];
      small = let s = w.small in omega arith;
    }

-- all digits
pub all_written : (frame out : List ℕ) (at n place rest : ℕ) → Spelled frame out at n place rest → place ≡ at → out ≡ laid at (decimal n) frame
all_written frame out at n place rest w z =
    w.written ∙ ap (λ (x : ℕ). laid x w.tail frame) z ∙ ap (λ (xs : List ℕ). laid at xs frame) (w.whole z)
