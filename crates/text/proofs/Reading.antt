-- Reading a number: the digits that a text begins with, and what they are worth.
use Rattle.std.proofs.Common.{◌≡◌, ℕ, zero, suc, ◌+◌, ◌-◌, ◌*◌, ◌^◌, ◌<◌, ◌≤◌, Bool, true, false, cond, leb, List, [], ◌∷◌, ◌++◌, length, get_or, take, drop, decimal, sym, refl, ap, ◌∙◌, subst, inl, inr, one-add, arith, lit<, lit≤}
use native.Mathlib.Nat.{pow-le-pow_right}
use Rattle.std.proofs.lemmas.Fmt.{decimal_is_IsNumeral, decimal-digits_value, length-decimal-le, first_decimal, decimal_nonempty, decimal_digit}
use Rattle.std.proofs.lemmas.Int.Digits.{digits_value-lt, digits_value_more}
use Rattle.std.proofs.lemmas.List.{take-append-drop, length-take, length-take-le}
use Rattle.std.proofs.lemmas.List.Sums.{prefix_len-le-length}
use Rattle.std.proofs.lemmas.List.Folds.{length-prefix_len}
use Rattle.std.proofs.lemmas.Str.Parse.{numerals_by_value, tells_digits, digit_from_value, digit_at, digits_value-take-le}
use Rattle.std.proofs.lemmas.Str.{digit_value_digit}
use Rattle.std.proofs.lemmas.Bool.{cases_eq, and_from, and_parts, le-leb, leb-true, both_ways}
use Rattle.std.specs.List.{prefix_len}
use Rattle.std.specs.Char.{is_ascii_digit}
use Rattle.std.specs.Str.Parse.{AllDigits, digits_value}
use Rattle.text.specs.Numerals.{ten_digits, Stops, Begins, BeginsNone}

-- the digits that a text begins with, and what follows them
pub digits_first : (bytes : List ℕ) → AllDigits 10 (take (prefix_len is_ascii_digit bytes) bytes)
digits_first [] = tt
digits_first (b ∷ bytes) = by (is_ascii_digit b) refl (digits_first bytes)
  where
    by : (t : Bool) → is_ascii_digit b ≡ t → AllDigits 10 (take (prefix_len is_ascii_digit bytes) bytes) → AllDigits 10 (take (cond t (1 + prefix_len is_ascii_digit bytes) 0) (b ∷ bytes))
    by true e more =
        let (lo, hi) = and_parts (leb 48 b) (leb b 57) e in
        let v = digit_value_digit b (leb-true 48 b lo, leb-true b 57 hi) in
        rw one-add (let h = leb-true b 57 hi in omega arith, more)
    by false e more = tt

pub stops_after : (bytes : List ℕ) → Stops (drop (prefix_len is_ascii_digit bytes) bytes)
stops_after [] = tt
stops_after (b ∷ bytes) = by (is_ascii_digit b) refl (stops_after bytes)
  where
    by : (t : Bool) → is_ascii_digit b ≡ t → Stops (drop (prefix_len is_ascii_digit bytes) bytes) → Stops (drop (cond t (1 + prefix_len is_ascii_digit bytes) 0) (b ∷ bytes))
    by true e more = rw one-add more
    by false e more = λ i. both_ways (is_ascii_digit b) e (and_from (leb 48 b) (leb b 57) (le-leb 48 b i.0) (le-leb b 57 i.1))

-- digits are counted in the first bytes alone: all of them where there are fewer than these, and else as many as these
pub counted : (n : ℕ) (bytes : List ℕ) → prefix_len is_ascii_digit (take n bytes) < n → prefix_len is_ascii_digit (take n bytes) ≡ prefix_len is_ascii_digit bytes
counted zero bytes l = absurd (omega (arith, l))
counted (suc n) [] l = refl
counted (suc n) (b ∷ bytes) l = by (is_ascii_digit b) l (counted n bytes)
  where
    by : (t : Bool) → cond t (1 + prefix_len is_ascii_digit (take n bytes)) 0 < suc n
        → (prefix_len is_ascii_digit (take n bytes) < n → prefix_len is_ascii_digit (take n bytes) ≡ prefix_len is_ascii_digit bytes)
        → cond t (1 + prefix_len is_ascii_digit (take n bytes)) 0 ≡ cond t (1 + prefix_len is_ascii_digit bytes) 0
    by true m more = let e = more (omega (arith, m)) in omega (arith, e)
    by false m more = refl

pub counted_up : (n : ℕ) (bytes : List ℕ) → n ≤ prefix_len is_ascii_digit (take n bytes) → n ≤ prefix_len is_ascii_digit bytes
counted_up zero bytes l = omega arith
counted_up (suc n) [] l = absurd (omega (arith, l))
counted_up (suc n) (b ∷ bytes) l = by (is_ascii_digit b) l (counted_up n bytes)
  where
    by : (t : Bool) → suc n ≤ cond t (1 + prefix_len is_ascii_digit (take n bytes)) 0
        → (n ≤ prefix_len is_ascii_digit (take n bytes) → n ≤ prefix_len is_ascii_digit bytes)
        → suc n ≤ cond t (1 + prefix_len is_ascii_digit bytes) 0
    by true m more = let e = more (omega (arith, m)) in omega (arith, e)
    by false m more = absurd (omega (arith, m))

-- a text parted where its first digits end
pub record Parted (bytes ds rest : List ℕ) : Type 0 where
  pub text : bytes ≡ ds ++ rest
  pub all : AllDigits 10 ds
  pub stops : Stops rest

pub parted : (bytes ds rest : List ℕ) (n : ℕ) → n ≡ prefix_len is_ascii_digit bytes → ds ≡ take n bytes → rest ≡ drop n bytes → Parted bytes ds rest
parted bytes ds rest n e f g =
    let d : ds ≡ take (prefix_len is_ascii_digit bytes) bytes = f ∙ ap (λ (k : ℕ). take k bytes) e in
    let r : rest ≡ drop (prefix_len is_ascii_digit bytes) bytes = g ∙ ap (λ (k : ℕ). drop k bytes) e in
    record {
      text = sym (take-append-drop n bytes) ∙ ap (λ (xs : List ℕ). xs ++ drop n bytes) (sym f) ∙ ap (λ (xs : List ℕ). ds ++ xs) (sym g);
      all = subst (λ (xs : List ℕ). AllDigits 10 xs) (sym d) (digits_first bytes);
      stops = subst Stops (sym r) (stops_after bytes);
    }

-- the same, where the digits were counted in the first bytes alone
pub front_within : (bytes front : List ℕ) (n k : ℕ) → front ≡ take n bytes → k ≡ prefix_len is_ascii_digit front → k ≤ length bytes
front_within bytes front n k e f =
    let l = prefix_len-le-length is_ascii_digit front in
    let m = length-take n bytes in
    let g = ap (λ (xs : List ℕ). length xs) e in
    omega arith

pub front_parted : (bytes front ds rest : List ℕ) (k : ℕ) → front ≡ take 11 bytes → k ≡ prefix_len is_ascii_digit front → ds ≡ take k bytes → rest ≡ drop k bytes
    → length ds ≤ 10 → Parted bytes ds rest
front_parted bytes front ds rest k e f g h few =
    let within = front_within bytes front 11 k e f in
    let l = ap (λ (xs : List ℕ). length xs) g ∙ length-take-le k bytes within in
    let s = f ∙ ap (λ (xs : List ℕ). prefix_len is_ascii_digit xs) e in
    parted bytes ds rest k (s ∙ counted 11 bytes (omega (arith, s, l, few))) g h

-- the value of at most ten digits
pub small : (ds : List ℕ) → AllDigits 10 ds → length ds ≤ 10 → digits_value 10 ds < ten_digits
small ds all few =
    let v = digits_value-lt 10 ds all in
    let p : 10 ^ length ds ≤ 10 ^ 10 = pow-le-pow_right (lit< tt) few in
    omega arith

-- where digits end, bytes begin with digits in one way
pub one_way : (xs ys r s : List ℕ) → AllDigits 10 xs → AllDigits 10 ys → Stops r → Stops s → xs ++ r ≡ ys ++ s → (xs ≡ ys) × (r ≡ s)
one_way [] [] r s d e p q h = (refl, h)
one_way [] (y ∷ ys) r s d e p q h = absurd (subst Stops h p (digit_from_value y e.0))
one_way (x ∷ xs) [] r s d e p q h = absurd (subst Stops (sym h) q (digit_from_value x d.0))
one_way (x ∷ xs) (y ∷ ys) r s d e p q h =
    let first : x ≡ y = cc in
    let others : xs ++ r ≡ ys ++ s = cc in
    let more = one_way xs ys r s d.1 e.1 p q others in
    (ap (λ (z : ℕ). z ∷ xs) first ∙ ap (λ (zs : List ℕ). y ∷ zs) more.0, more.1)

digits_of : (n : ℕ) → n < ten_digits → AllDigits 10 (decimal n)
digits_of n few = (decimal_is_IsNumeral n (omega arith)).0.1

-- so bytes begin with one number at the most
pub begins_once : (bytes r s : List ℕ) (n m : ℕ) → Begins bytes n r → Begins bytes m s → r ≡ s
begins_once bytes r s n m b c =
    (one_way (decimal n) (decimal m) r s (digits_of n b.few) (digits_of m c.few) b.stops c.stops (sym b.text ∙ c.text)).1

-- and their first digits are the number's text
same_digits : (bytes ds rest : List ℕ) → Parted bytes ds rest → (m : ℕ) (r : List ℕ) → Begins bytes m r → decimal m ≡ ds
same_digits bytes ds rest p m r b =
    (one_way (decimal m) ds r rest (digits_of m b.few) p.all b.stops p.stops (sym b.text ∙ p.text)).0

-- no digit at all, a needless zero, an eleventh digit
pub none_there : (bytes ds rest : List ℕ) → Parted bytes ds rest → length ds < 1 → BeginsNone bytes
none_there bytes ds rest p l m r b =
    let few = b.few in
    let e = ap length (same_digits bytes ds rest p m r b) in
    let n = decimal_nonempty m (omega arith) in
    omega arith

pub needless : (bytes ds rest : List ℕ) → Parted bytes ds rest → get_or ds 0 0 ≡ 48 → 1 < length ds → BeginsNone bytes
needless bytes ds rest p z l m r b =
    let few = b.few in
    let o = same_digits bytes ds rest p m r b in
    let e = ap length o in
    let g = ap (λ (xs : List ℕ). get_or xs 0 0) o in
    elim (cases_eq m 0) [
      | inl q ↦ let one = ap length (decimal_digit m (omega arith)) in absurd (omega arith)
      | inr q ↦ let big = first_decimal m (omega arith) (omega arith) in omega arith
    ]

pub too_long : (bytes ds rest : List ℕ) → Parted bytes ds rest → 10 < length ds → BeginsNone bytes
too_long bytes ds rest p l m r b =
    let few = b.few in
    let e = ap length (same_digits bytes ds rest p m r b) in
    let d = length-decimal-le 10 m (lit< tt) (omega arith) (omega arith) in
    omega arith

pub front_long : (bytes front ds : List ℕ) (k : ℕ) → front ≡ take 11 bytes → k ≡ prefix_len is_ascii_digit front → ds ≡ take k bytes → 10 < length ds → BeginsNone bytes
front_long bytes front ds k e f g many =
    let within = front_within bytes front 11 k e f in
    let l = ap (λ (xs : List ℕ). length xs) g ∙ length-take-le k bytes within in
    let s = f ∙ ap (λ (xs : List ℕ). prefix_len is_ascii_digit xs) e in
    let up = counted_up 11 bytes (omega (arith, s, l, many)) in
    let all = length-prefix_len is_ascii_digit bytes in
    too_long bytes _ _ (parted bytes _ _ (prefix_len is_ascii_digit bytes) refl refl refl) (omega (arith, up, all))

-- a number
pub there : (bytes ds rest : List ℕ) (n : ℕ) → Parted bytes ds rest → 0 < length ds → length ds ≤ 10 → (get_or ds 0 0 ≡ 48 → length ds ≡ 1) → n ≡ digits_value 10 ds → Begins bytes n rest
there bytes ds rest n p some few plain e =
    let s = small ds p.all few in
    record {
      few = omega arith;
      text = p.text ∙ ap (λ (xs : List ℕ). xs ++ rest) (sym (decimal-digits_value (numerals_by_value (AllDigits 10) tells_digits) ds p.all some plain (omega arith)) ∙ ap decimal (sym e));
      stops = p.stops;
    }

-- the value of some digits, and of one more
pub one_more : (ds : List ℕ) (i n d : ℕ) → AllDigits 10 ds → length ds ≤ 10 → i < length ds → n ≡ digits_value 10 (take i ds) → d ≡ get_or ds i 0 - 48
    → (10 * n + d ≡ digits_value 10 (take (i + 1) ds)) × (10 * n + d < ten_digits)
one_more ds i n d all few l e f =
    let m = digits_value_more 10 ds i l in
    let v = digit_value_digit (get_or ds i 0) (digit_at ds i all l) in
    let k = digits_value-take-le 10 ds (i + 1) (lit≤ tt) in
    let s = small ds all few in
    (omega arith, omega arith)
