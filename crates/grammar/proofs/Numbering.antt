-- Words as numbers: a word is a number exactly where it is the text of one of at most ten digits.
use Rattle.std.proofs.Common.{◌≡◌, ℕ, ◌^◌, ◌<◌, ◌≤◌, Bool, true, false, not, ◌&&◌, ◌||◌, eqb, leb, List, [], ◌∷◌, ◌++◌, map, length, get_or, Some, None, decimal, Option, sym, refl, ap, ◌∙◌, subst, inl, inr, arith, lit<}
use native.Mathlib.Nat.{pow-le-pow_right}
use Rattle.std.proofs.lemmas.Fmt.{decimal_is_IsNumeral, decimal-digits_value, decimal_nonempty, decimal_digit, first_decimal, length-decimal-le, digits_decimal}
use Rattle.std.proofs.lemmas.Int.Digits.{digits_value-lt}
use Rattle.std.proofs.lemmas.List.{append-nil}
use Rattle.std.proofs.lemmas.Str.Parse.{IsNumeralModel, numerals_by_value, tells_all_ascii_digits, digit_from_value}
use Rattle.std.proofs.lemmas.Bool.{cond-true, cond-false, le-leb, leb-true, eq-eqb, ne_eqb, eqb-true, and_from, and_parts, or_left, or_right, or_cases, not_from_false, not-true, cases_eq, both_ways}
use Rattle.std.specs.Str.Parse.{AllDigits, digits_value}
use Rattle.std.specs.Str.{all_ascii_digits}
use Rattle.text.specs.Numerals.{ten_digits}
use Rattle.grammar.specs.Pieces.{space, pieces}
use Rattle.grammar.specs.Rows.{plain, number_of, joins, numbers, fields, Small}
use Rattle.grammar.proofs.Parting.{Free, parted, pieces_front, pieces_last}

own : IsNumeralModel (λ ds. all_ascii_digits ds ≡ true) (digits_value 10)
own = numerals_by_value (λ ds. all_ascii_digits ds ≡ true) tells_all_ascii_digits

-- a number's text is plain, and means the number
plain_decimal : (n : ℕ) → n < ten_digits → plain (decimal n) ≡ true
plain_decimal n f =
    let some = decimal_nonempty n (omega arith) in
    let few = length-decimal-le 10 n (lit< tt) (omega arith) (omega arith) in
    and_from _ _ (digits_decimal own n (omega arith))
    (and_from _ _ (le-leb 1 (length (decimal n)) some)
    (and_from _ _ (le-leb (length (decimal n)) 10 few)
    (elim (cases_eq n 0) [
      | inl z ↦ or_right (not (eqb (get_or (decimal n) 0 0) 48)) (eqb (length (decimal n)) 1) (eq-eqb (length (decimal n)) 1 (ap length (decimal_digit n (omega arith))))
      | inr z ↦
          let big = first_decimal n (omega arith) (omega arith) in
          or_left (not (eqb (get_or (decimal n) 0 0) 48)) (eqb (length (decimal n)) 1) (not_from_false _ (ne_eqb (get_or (decimal n) 0 0) 48 (λ e. omega arith)))
    ])))

pub number_back : (n : ℕ) → n < ten_digits → number_of (decimal n) ≡ Some n
unfolding number_of
number_back n f =
    cond-true (plain (decimal n)) (Some (digits_value 10 (decimal n))) None (plain_decimal n f) ∙ ap (λ (x : ℕ). Some x) (decimal_is_IsNumeral n (omega arith)).1

-- a plain word is the text of its value, which has at most ten digits
plain_worth : (w : List ℕ) → plain w ≡ true → (w ≡ decimal (digits_value 10 w)) × (digits_value 10 w < ten_digits)
plain_worth w p =
    let (d, r) = and_parts (all_ascii_digits w) (leb 1 (length w) && (leb (length w) 10 && (not (eqb (get_or w 0 0) 48) || eqb (length w) 1))) p in
    let (o, q) = and_parts (leb 1 (length w)) (leb (length w) 10 && (not (eqb (get_or w 0 0) 48) || eqb (length w) 1)) r in
    let (m, z) = and_parts (leb (length w) 10) (not (eqb (get_or w 0 0) 48) || eqb (length w) 1) q in
    let all = own.to w d in
    let few = leb-true _ _ m in
    let bound = digits_value-lt 10 w all in
    let most : 10 ^ length w ≤ 10 ^ 10 = pow-le-pow_right (lit< tt) few in
    let small : digits_value 10 w < ten_digits = omega arith in (
      sym (decimal-digits_value own w d (leb-true _ _ o)
          (λ e. elim (or_cases _ _ z) [
            | inl n ↦ absurd (both_ways _ (not-true _ n) (eq-eqb (get_or w 0 0) 48 e))
            | inr n ↦ eqb-true _ _ n
          ]) (omega arith)),
      small,
    )

pub number_exact : (w : List ℕ) (n : ℕ) → number_of w ≡ Some n → (w ≡ decimal n) × (n < ten_digits)
unfolding number_of
number_exact w n e = by (plain w) refl
  where
    by : (b : Bool) → plain w ≡ b → (w ≡ decimal n) × (n < ten_digits)
    by true p =
        let f : Some (digits_value 10 w) ≡ Some n = sym (cond-true (plain w) (Some (digits_value 10 w)) None p) ∙ e in
        let v : digits_value 10 w ≡ n = cc in
        let q = plain_worth w p in
        (q.0 ∙ ap decimal v, subst (λ (x : ℕ). x < ten_digits) v q.1)
    by false p =
        let f : None ≡ Some n = sym (cond-false (plain w) (Some (digits_value 10 w)) None p) ∙ e in
        let z : ◌≡◌ {A = ℕ} 0 1 = cc in
        absurd (omega arith)

-- a number's text has no space and no line feed in it
pub digits_free : (s : ℕ) (ds : List ℕ) → s < 48 → AllDigits 10 ds → Free s ds
digits_free s [] l d = tt
digits_free s (c ∷ ds) l d = (λ e. let i = digit_from_value c d.0 in omega (arith, i.0), digits_free s ds l d.1)

pub decimal_free : (s n : ℕ) → s < 48 → n < ten_digits → Free s (decimal n)
decimal_free s n l f = digits_free s (decimal n) l (decimal_is_IsNumeral n (omega arith)).0.1

-- words of numbers, one by one
pub words_fields : (w ns : List ℕ) → Free space w → Small ns → pieces space (w ++ fields ns) ≡ w ∷ map decimal ns
unfolding fields
words_fields w [] f s = ap (λ (xs : List ℕ). pieces space xs) (append-nil w) ∙ pieces_last space w f
words_fields w (n ∷ ns) f s =
    pieces_front space w (decimal n ++ fields ns) f
    ∙ ap (λ (ps : List (List ℕ)). w ∷ ps) (words_fields (decimal n) ns (decimal_free space n (lit< tt) s.0) s.1)

pub numbers_back : (ns : List ℕ) → Small ns → numbers (map decimal ns) ≡ Some ns
unfolding numbers
numbers_back [] s = refl
numbers_back (n ∷ ns) s =
    ap (λ (o : Option ℕ). joins o (numbers (map decimal ns))) (number_back n s.0) ∙ ap (λ (o : Option (List ℕ)). joins (Some n) o) (numbers_back ns s.1)

joined_both : (o : Option ℕ) (p : Option (List ℕ)) (ns : List ℕ) → joins o p ≡ Some ns → (m : ℕ) × (ms : List ℕ) × (o ≡ Some m) × (p ≡ Some ms) × (ns ≡ m ∷ ms)
joined_both None p ns e = let z : ◌≡◌ {A = ℕ} 0 1 = cc in absurd (omega arith)
joined_both (Some m) None ns e = let z : ◌≡◌ {A = ℕ} 0 1 = cc in absurd (omega arith)
joined_both (Some m) (Some ms) ns e = (m, ms, refl, refl, let f : m ∷ ms ≡ ns = cc in sym f)

pub numbers_exact : (ws : List (List ℕ)) (ns : List ℕ) → numbers ws ≡ Some ns → (parted space ws ≡ fields ns) × Small ns
unfolding numbers fields
numbers_exact [] ns e =
    let f : [] ≡ ns = cc in
    subst (λ (xs : List ℕ). (parted space [] ≡ fields xs) × Small xs) f (refl, tt)
numbers_exact (w ∷ ws) ns e =
    let b = joined_both (number_of w) (numbers ws) ns e in
    let h = number_exact w b.0 b.2 in
    let t = numbers_exact ws b.1 b.3 in
    subst (λ (xs : List ℕ). (parted space (w ∷ ws) ≡ fields xs) × Small xs) (sym b.4)
    (ap (λ (xs : List ℕ). space ∷ (xs ++ parted space ws)) h.0 ∙ ap (λ (xs : List ℕ). space ∷ (decimal b.0 ++ xs)) t.0, (h.1, t.1))
