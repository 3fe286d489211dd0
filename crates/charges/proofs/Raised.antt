-- Rows of a table read and written: a row is the energy of the record at its place.
use Rattle.std.proofs.Common.{◌≡◌, ℕ, ◌+◌, ◌<◌, cond, eqb, ltb, leb, List, [], ◌∷◌, map, length, get_or, set, sym, refl, ap, ◌∙◌, inl, inr, Option, Some, None, Bor, arith}
use lib.ListN.{get_or-map}
use Rattle.std.proofs.lemmas.List.{length-map, map-set, get_or-set_same, get_or-set_other}
use Rattle.std.proofs.lemmas.Bool.{cases_eq, cond-true, cond-false, eq-eqb, ne_eqb, le-leb, lt-leb, ltb-true, ltb-false}
use Rattle.std.proofs.lemmas.List.Sums.{sum_by-cons}
use Rattle.std.specs.Option.{option_map, is_some, unwrap_or}
use Rattle.model.specs.Sums.{sum_to}
use Rattle.model.proofs.Sums.{sum_to_cong}
use Rattle.theory.proofs.Walls.{sum_to_first}
use Rattle.std.specs.List.{sum_by}
use Rattle.charges.specs.declared.charges.Charge.{Charge}
use Rattle.charges.specs.declared.charges.Charges.{Charges}
use Rattle.charges.specs.Rows.{rows_of}

-- what stands for a record past the last
abbrev pub no_charge : Charge
no_charge = record { energy = 0 }

-- there are 65 rows
pub rows_count : (c : Charges) → length (rows_of c) ≡ 65
unfolding rows_of
rows_count c = length-map c.rows (λ r. r.energy) ∙ c.full

-- a row is what its record holds
pub row_at : (c : Charges) (a : ℕ) → get_or (rows_of c) a 0 ≡ (get_or c.rows a no_charge).energy
unfolding rows_of
row_at c a = get_or-map (λ (r : Charge). r.energy) c.rows a no_charge

-- a record written is a row written
pub row_set : (rows : List Charge) (a e : ℕ) → map (λ (r : Charge). r.energy) (set rows a (record { energy = e })) ≡ set (map (λ (r : Charge). r.energy) rows) a e
row_set rows a e = map-set (λ (r : Charge). r.energy) rows a (record { energy = e })

-- a row raised: that row rises, and no other
pub raised :
    (rows after : List ℕ) (x by : ℕ) → x < length rows → after ≡ set rows x (get_or rows x 0 + by)
    → (a : ℕ) → get_or after a 0 ≡ get_or rows a 0 + cond (eqb x a) by 0
raised rows after x by l e a =
    let f = ap (λ (ys : List ℕ). get_or ys a 0) e in
    elim (cases_eq x a) [
      | inl s ↦
          let c = cond-true (eqb x a) by 0 (eq-eqb x a s) in
          let r = get_or-set_same rows x (get_or rows x 0 + by) 0 l in
          let p = ap (λ (y : ℕ). get_or (set rows x (get_or rows x 0 + by)) y 0) s in
          let q = ap (λ (y : ℕ). get_or rows y 0) s in
          omega arith
      | inr n ↦
          let c = cond-false (eqb x a) by 0 (ne_eqb x a n) in
          let r = get_or-set_other rows x a (get_or rows x 0 + by) 0 (λ s. n (sym s)) in
          omega arith
    ]

-- a sum over a list, place by place
sum_by_places : {X : Type 0} (f : X → ℕ) (d : X) (xs : List X) → sum_by f xs ≡ sum_to (length xs) (λ i. f (get_or xs i d))
unfolding sum_to
sum_by_places f d [] = refl
sum_by_places f d (x ∷ xs) =
    sum_by-cons f x xs ∙ (ap (λ (n : ℕ). f x + n) (sum_by_places f d xs) ∙ sym (sum_to_first (length xs) (λ i. f (get_or (x ∷ xs) i d))))

-- the sum of the records is the sum of the rows
pub rows_sum : (c : Charges) → sum_by (λ (r : Charge). r.energy) c.rows ≡ sum_to 65 (λ a. get_or (rows_of c) a 0)
rows_sum c =
    sum_by_places (λ (r : Charge). r.energy) no_charge c.rows
    ∙ (ap (λ (n : ℕ). sum_to n (λ a. (get_or c.rows a no_charge).energy)) c.full
    ∙ sum_to_cong 65 (λ a. (get_or c.rows a no_charge).energy) (λ a. get_or (rows_of c) a 0) (λ a l. sym (row_at c a)))

-- a record that is looked up is its row, where there is one
pub row_found :
    (c : Charges) (a : ℕ) (o : Option (Bor Charge)) (r : Option ℕ) → is_some o ≡ ltb a (length c.rows)
    → ((d : Charge) → unwrap_or (option_map (λ x. x.now) o) d ≡ get_or c.rows a d) → r ≡ option_map (λ x. x.now.energy) o
    → r ≡ cond (leb a 64) (Some (get_or (rows_of c) a 0)) None
row_found c a None r v u m =
    m ∙ sym (cond-false (leb a 64) _ _ (lt-leb _ _ (let n = c.full in let l = ltb-false _ _ (sym v) in omega arith)))
row_found c a (Some x) r v u m =
    m
    ∙ (ap Some (ap (λ (y : Charge). y.energy) (u no_charge) ∙ sym (row_at c a))
    ∙ sym (cond-true (leb a 64) _ _ (le-leb _ _ (let n = c.full in let l = ltb-true _ _ (sym v) in omega arith))))
