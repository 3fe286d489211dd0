-- Fields read one by one: those so far are the only ones that can stand there.
use Rattle.std.proofs.Common.{◌≡◌, ℕ, zero, suc, ◌+◌, ◌<◌, ◌≤◌, Bool, true, false, eqb, List, [], ◌∷◌, ◌++◌, length, get_or, take, drop, set, decimal, sym, refl, ap, ◌∙◌, subst, arith}
use Rattle.std.specs.Bool.{then_some}
use lib.Pointwise.{pointwise}
use Rattle.std.proofs.lemmas.Bool.{and_parts, eqb-true, eq-eqb, both_ways}
use Rattle.std.proofs.lemmas.List.{append_assoc, append-nil, drop_more, drop_all, take_more_set, take_all, length-set, nil_from_length}
use Rattle.text.specs.Numerals.{ten_digits, Stops, Begins, BeginsNone}
use Rattle.text.proofs.Reading.{begins_once}
use Rattle.grammar.specs.Pieces.{space}
use Rattle.grammar.specs.Rows.{fields, Small, Fields}

pub fields_push : (xs : List ℕ) (n : ℕ) → fields (xs ++ (n ∷ [])) ≡ fields xs ++ (space ∷ decimal n)
unfolding fields
fields_push [] n = ap (λ (ys : List ℕ). space ∷ ys) (append-nil (decimal n))
fields_push (x ∷ xs) n =
    ap (λ (ys : List ℕ). space ∷ (decimal x ++ ys)) (fields_push xs n) ∙ ap (λ (ys : List ℕ). space ∷ ys) (sym (append_assoc (decimal x) (fields xs) (space ∷ decimal n)))

small_push : (xs : List ℕ) (n : ℕ) → Small xs → n < ten_digits → Small (xs ++ (n ∷ []))
small_push [] n s f = (f, tt)
small_push (x ∷ xs) n s f = (s.0, small_push xs n s.1 f)

small_at : (ms : List ℕ) (k : ℕ) → Small ms → k < length ms → get_or ms k 0 < ten_digits
small_at [] k s l = absurd (omega arith)
small_at (m ∷ ms) zero s l = s.0
small_at (m ∷ ms) (suc k) s l = small_at ms k s.1 (omega arith)

-- fields do not begin with a digit
pub fields_stop : (ns : List ℕ) → Stops (fields ns)
unfolding fields
fields_stop [] = tt
fields_stop (n ∷ ns) = λ i. omega (arith, i.0)

-- k numbers are read, and what is left is what other fields of the text have behind them
pub record Fielded (text ns : List ℕ) (k : ℕ) (rest : List ℕ) : Type 0 where
  pub front : text ≡ fields (take k ns) ++ rest
  pub small : Small (take k ns)
  pub only : (ms : List ℕ) → length ms ≡ length ns → Small ms → text ≡ fields ms → rest ≡ fields (drop k ms)

pub none_read : (text ns : List ℕ) → Fielded text ns 0 text
unfolding fields
none_read text ns = record { front = refl; small = tt; only = λ ms n s e. e }

-- the field that stands next where so many stand
next_there : (text ns ms : List ℕ) (k : ℕ) (rest : List ℕ) → Fielded text ns k rest → k < length ns → length ms ≡ length ns → Small ms → text ≡ fields ms
    → rest ≡ space ∷ (decimal (get_or ms k 0) ++ fields (drop (k + 1) ms))
unfolding fields
next_there text ns ms k rest w l n s e = w.only ms n s e ∙ ap fields (drop_more ms k 0 (omega arith))

begins_next : (after ms : List ℕ) (k : ℕ) → Small ms → k < length ms → after ≡ decimal (get_or ms k 0) ++ fields (drop (k + 1) ms) → Begins after (get_or ms k 0) (fields (drop (k + 1) ms))
begins_next after ms k s l t = record { few = small_at ms k s l; text = t; stops = fields_stop (drop (k + 1) ms) }

-- one number more
pub one_read : (text ns : List ℕ) (k n : ℕ) (rest after next : List ℕ) → Fielded text ns k rest → k < length ns → rest ≡ space ∷ after → Begins after n next → Fielded text (set ns k n) (k + 1) next
one_read text ns k n rest after next w l h b =
    let t = take_more_set ns k n l in
    record {
      front =
          w.front
          ∙ ap (λ (xs : List ℕ). fields (take k ns) ++ xs) (h ∙ ap (λ (xs : List ℕ). space ∷ xs) b.text)
          ∙ sym (append_assoc (fields (take k ns)) (space ∷ decimal n) next)
          ∙ ap (λ (xs : List ℕ). xs ++ next) (sym (ap fields t ∙ fields_push (take k ns) n));
      small = subst Small (sym t) (small_push (take k ns) n w.small b.few);
      only = λ ms m s e.
          let z : length ms ≡ length ns = m ∙ length-set ns k n in
          let a : space ∷ after ≡ space ∷ (decimal (get_or ms k 0) ++ fields (drop (k + 1) ms)) = sym h ∙ next_there text ns ms k rest w l z s e in
          let d : after ≡ decimal (get_or ms k 0) ++ fields (drop (k + 1) ms) = cc in
          begins_once after next (fields (drop (k + 1) ms)) n (get_or ms k 0) b (begins_next after ms k s (omega arith) d);
    }

-- a space before the rest
pub spaced : (rest after : List ℕ) → pointwise eqb (take 1 rest) (space ∷ []) ≡ true → after ≡ drop 1 rest → rest ≡ space ∷ after
spaced [] after e d = let z : ◌≡◌ {A = ℕ} 0 1 = cc in absurd (omega arith)
spaced (b ∷ rest) after e d = let (f, t) = and_parts (eqb b space) true e in ap (λ (x : ℕ). x ∷ rest) (eqb-true b space f) ∙ ap (λ (xs : List ℕ). space ∷ xs) (sym d)

unspaced : (rest after : List ℕ) → pointwise eqb (take 1 rest) (space ∷ []) ≡ false → rest ≡ space ∷ after → ⊥
unspaced rest after e h =
    let f : pointwise eqb (take 1 rest) (space ∷ []) ≡ true = rw h refl in
    both_ways _ e f

-- no space stands next
pub no_space : (text ns ms : List ℕ) (k : ℕ) (rest : List ℕ) → Fielded text ns k rest → k < length ns → pointwise eqb (take 1 rest) (space ∷ []) ≡ false → length ms ≡ length ns → Small ms → text ≡ fields ms → ⊥
no_space text ns ms k rest w l h n s e = unspaced rest _ h (next_there text ns ms k rest w l n s e)

-- no number stands behind the space
pub no_number : (text ns ms : List ℕ) (k : ℕ) (rest after : List ℕ) → Fielded text ns k rest → k < length ns → rest ≡ space ∷ after → BeginsNone after → length ms ≡ length ns → Small ms → text ≡ fields ms → ⊥
no_number text ns ms k rest after w l h none n s e =
    let a : space ∷ after ≡ space ∷ (decimal (get_or ms k 0) ++ fields (drop (k + 1) ms)) = sym h ∙ next_there text ns ms k rest w l n s e in
    let d : after ≡ decimal (get_or ms k 0) ++ fields (drop (k + 1) ms) = cc in
    none (get_or ms k 0) (fields (drop (k + 1) ms)) (begins_next after ms k s (omega arith) d)

-- all are read, and bytes are left, or none
pub fields_end : (n : ℕ) (text ns : List ℕ) (k : ℕ) (rest : List ℕ) (b : Bool) → Fielded text ns k rest → length ns ≤ k → length ns ≡ n → b ≡ eqb (length rest) 0 → Fields n text (then_some b ns)
unfolding fields
fields_end n text ns k rest true w l z e =
    let t = take_all k ns l in
    let h : rest ≡ [] = nil_from_length rest (eqb-true (length rest) 0 (sym e)) in (
      z,
      w.front ∙ ap (λ (xs : List ℕ). fields (take k ns) ++ xs) h ∙ append-nil (fields (take k ns)) ∙ ap fields t,
      subst Small t w.small,
    )
fields_end n text ns k rest false w l z e = λ ms m s q.
    let a = ap length (w.only ms (omega arith) s q ∙ ap fields (drop_all k ms (omega arith))) in
    both_ways (eqb (length rest) 0) (sym e) (eq-eqb (length rest) 0 a)
