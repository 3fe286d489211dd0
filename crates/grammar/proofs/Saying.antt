-- A line says a row exactly where it is the row's text.
use Rattle.std.proofs.Common.{◌≡◌, ℕ, Bool, true, false, cond, eqb, ◌⊎◌, List, [], ◌∷◌, ◌++◌, map, length, Some, None, decimal, Option, sym, refl, ap, ◌∙◌, subst, inl, inr, arith}
use Rattle.std.proofs.lemmas.Bool.{cond-true, cond-false, and_parts, eqb-true}
use Rattle.grammar.specs.Pieces.{space, pieces}
use Rattle.grammar.specs.Rows.{numbers, letter, rung, task, of_numbers, says, by_words, row_of, fields, letter_of, numbers_of, row_text, Small, Exactly}
use Rattle.grammar.specs.declared.row.Row.{Row}
use Rattle.grammar.specs.declared.row.Row.TheVariants.{Rung, Task, Draw}
use Rattle.grammar.proofs.Parting.{Free, parted, glued, pieces_some, pieces_glued}
use Rattle.grammar.proofs.Numbering.{words_fields, numbers_back, numbers_exact}

alone : (c : ℕ) → (c ≡ space → ⊥) → Free space (c ∷ [])
alone c n = (n, tt)

worded : (c : ℕ) (ns : List ℕ) → (c ≡ space → ⊥) → Small ns → row_of (c ∷ fields ns) ≡ says (c ∷ []) (map decimal ns)
unfolding row_of
worded c ns n s = ap by_words (words_fields (c ∷ []) ns (alone c n) s)

-- a row's text says the row
pub row_back : (r : Row) → Small (numbers_of r) → row_of (row_text r) ≡ Some r
unfolding says
row_back (Rung v) s = worded 84 (numbers_of (Rung v)) (λ e. omega arith) s ∙ ap (λ (o : Option (List ℕ)). of_numbers 2 rung o) (numbers_back (numbers_of (Rung v)) s)
row_back (Task j) s = worded 74 (numbers_of (Task j)) (λ e. omega arith) s ∙ ap (λ (o : Option (List ℕ)). of_numbers 4 task o) (numbers_back (numbers_of (Task j)) s)
row_back Draw s = worded 80 [] (λ e. omega arith) s ∙ ap (λ (o : Option (List ℕ)). of_numbers 0 (λ _. Draw) o) (numbers_back [] s)

-- a word of one letter is that letter
one_letter : (c : ℕ) (w : List ℕ) → letter c w ≡ true → w ≡ c ∷ []
one_letter c [] e = absurd (let (a, b) = and_parts (eqb 0 1) (eqb 0 c) e in let z = eqb-true 0 1 a in omega arith)
one_letter c (x ∷ []) e = let (a, b) = and_parts (eqb 1 1) (eqb x c) e in ap (λ (y : ℕ). y ∷ []) (eqb-true x c b)
one_letter c (x ∷ (y ∷ ys)) e = absurd (let (a, b) = and_parts (eqb (length (x ∷ (y ∷ ys))) 1) (eqb x c) e in let z = eqb-true (length (x ∷ (y ∷ ys))) 1 a in omega arith)

-- what is said of so many numbers
numbered : (k : ℕ) (f : List ℕ → Row) (o : Option (List ℕ)) (r : Row) → of_numbers k f o ≡ Some r → (ns : List ℕ) × (o ≡ Some ns) × (length ns ≡ k) × (f ns ≡ r)
numbered k f None r e = let z : ◌≡◌ {A = ℕ} 0 1 = cc in absurd (omega arith)
numbered k f (Some ns) r e = by (eqb (length ns) k) refl
  where
    by : (b : Bool) → eqb (length ns) k ≡ b → (ms : List ℕ) × (Some ns ≡ Some ms) × (length ms ≡ k) × (f ms ≡ r)
    by true p =
        let g : Some (f ns) ≡ Some r = sym (cond-true (eqb (length ns) k) (Some (f ns)) None p) ∙ e in
        let h : f ns ≡ r = cc in
        (ns, refl, eqb-true (length ns) k p, h)
    by false p =
        let g : None ≡ Some r = sym (cond-false (eqb (length ns) k) (Some (f ns)) None p) ∙ e in
        let z : ◌≡◌ {A = ℕ} 0 1 = cc in
        absurd (omega arith)

-- a letter and numbers are the text of the row that they say
pub rung_text : (ns : List ℕ) → length ns ≡ 2 → ns ≡ numbers_of (rung ns)
rung_text [] e = absurd (omega arith)
rung_text (a ∷ []) e = absurd (omega arith)
rung_text (a ∷ (b ∷ [])) e = refl
rung_text (a ∷ (b ∷ (c ∷ ns))) e = absurd (omega arith)

pub task_text : (ns : List ℕ) → length ns ≡ 4 → ns ≡ numbers_of (task ns)
task_text [] e = absurd (omega arith)
task_text (a ∷ []) e = absurd (omega arith)
task_text (a ∷ (b ∷ [])) e = absurd (omega arith)
task_text (a ∷ (b ∷ (c ∷ []))) e = absurd (omega arith)
task_text (a ∷ (b ∷ (c ∷ (d ∷ [])))) e = refl
task_text (a ∷ (b ∷ (c ∷ (d ∷ (x ∷ ns))))) e = absurd (omega arith)

draw_text : (ns : List ℕ) → length ns ≡ 0 → ns ≡ numbers_of Draw
draw_text [] e = refl
draw_text (a ∷ ns) e = absurd (omega arith)

-- the letter and the words of a line that says a row of this form
formed : (c k : ℕ) (f : List ℕ → Row) (text w : List ℕ) (ws : List (List ℕ)) (r : Row)
    → ((ns : List ℕ) → length ns ≡ k → (ns ≡ numbers_of (f ns)) × (c ≡ letter_of (f ns)))
    → pieces space text ≡ w ∷ ws → letter c w ≡ true → of_numbers k f (numbers ws) ≡ Some r → Exactly text (Some r)
formed c k f text w ws r h p l e =
    let n = numbered k f (numbers ws) r e in
    let x = numbers_exact ws n.0 n.1 in
    let g = h n.0 n.2 in
    subst (λ (q : Row). Exactly text (Some q)) n.3 (
      sym (pieces_glued space text)
          ∙ ap (λ (ps : List (List ℕ)). glued space ps) p
          ∙ ap (λ (v : List ℕ). v ++ parted space ws) (one_letter c w l)
          ∙ ap (λ (xs : List ℕ). c ∷ xs) x.0
          ∙ ap (λ (y : ℕ). y ∷ fields n.0) g.1
          ∙ ap (λ (xs : List ℕ). letter_of (f n.0) ∷ fields xs) g.0,
      subst Small g.0 x.1,
    )

said_exact : (text w : List ℕ) (ws : List (List ℕ)) (r : Row) → pieces space text ≡ w ∷ ws → says w ws ≡ Some r → Exactly text (Some r)
unfolding says
said_exact text w ws r p e = by_t (letter 84 w) refl e
  where
    by_p : (b : Bool) → letter 80 w ≡ b → cond b (of_numbers 0 (λ _. Draw) (numbers ws)) None ≡ Some r → Exactly text (Some r)
    by_p true l q = formed 80 0 (λ _. Draw) text w ws r (λ ns n. (draw_text ns n, refl)) p l q
    by_p false l q = let z : ◌≡◌ {A = ℕ} 0 1 = cc in absurd (omega arith)

    by_j : (b : Bool) → letter 74 w ≡ b → cond b (of_numbers 4 task (numbers ws)) (cond (letter 80 w) (of_numbers 0 (λ _. Draw) (numbers ws)) None) ≡ Some r → Exactly text (Some r)
    by_j true l q = formed 74 4 task text w ws r (λ ns n. (task_text ns n, refl)) p l q
    by_j false l q = by_p (letter 80 w) refl q

    by_t : (b : Bool) → letter 84 w ≡ b → cond b (of_numbers 2 rung (numbers ws)) (cond (letter 74 w) (of_numbers 4 task (numbers ws)) (cond (letter 80 w) (of_numbers 0 (λ _. Draw) (numbers ws)) None)) ≡ Some r → Exactly text (Some r)
    by_t true l q = formed 84 2 rung text w ws r (λ ns n. (rung_text ns n, refl)) p l q
    by_t false l q = by_j (letter 74 w) refl q

-- a line that says a row is its text
pub row_exact : (text : List ℕ) (r : Row) → row_of text ≡ Some r → Exactly text (Some r)
unfolding row_of
row_exact text r e =
    let s = pieces_some space text in
    said_exact text s.0 s.1 r s.2 (sym (ap by_words s.2) ∙ e)

-- so a reader that finds exactly the row whose text a line is finds what the line says
pub found : (text : List ℕ) (o : Option Row) → Exactly text o → o ≡ row_of text
found text (Some r) x = sym (ap row_of x.0 ∙ row_back r x.1)
found text None x = by (row_of text) refl
  where
    by : (o : Option Row) → row_of text ≡ o → None ≡ row_of text
    by None e = sym e
    by (Some r) e = let y = row_exact text r e in absurd (x r y.1 y.0)

-- the same of a line by its letter and what follows it
pub row_by : (line text : List ℕ) (c d : ℕ) (o : Option Row) → line ≡ c ∷ text → c ≡ d → Exactly (d ∷ text) o → o ≡ row_of line
row_by line text c d o e l x = found line o (subst (λ (xs : List ℕ). Exactly xs o) (sym (e ∙ ap (λ (b : ℕ). b ∷ text) l)) x)

-- a letter that no row has
pub lettered : (r : Row) → ((letter_of r ≡ 84) ⊎ (letter_of r ≡ 74)) ⊎ (letter_of r ≡ 80)
lettered (Rung v) = inl (inl refl)
lettered (Task j) = inl (inr refl)
lettered Draw = inr refl

pub unlettered : (c : ℕ) (text : List ℕ) → (c ≡ 84 → ⊥) → (c ≡ 74 → ⊥) → (c ≡ 80 → ⊥) → Exactly (c ∷ text) None
unlettered c text a b d r s t =
    let e : c ≡ letter_of r = cc in
    elim (lettered r) [ inl q ↦ elim q [ inl x ↦ a (e ∙ x) | inr x ↦ b (e ∙ x) ] | inr x ↦ d (e ∙ x) ]

pub empty_line : (text : List ℕ) → length text ≡ 0 → Exactly text None
empty_line text l r s t = let n = ap length t in omega arith
