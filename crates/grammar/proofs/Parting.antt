-- Pieces between separators: found one by one from the front, and put together again.
use Rattle.std.specs.List.{position_or_len}
use Rattle.std.proofs.lemmas.List.Sums.{passes_at_first}
use Rattle.std.proofs.Common.{slice_range, not, ltb, position, one-add, ◌≡◌, ℕ, ◌+◌, ◌-◌, ◌<◌, ◌≤◌, Bool, true, false, cond, eqb, List, [], ◌∷◌, ◌++◌, length, get_or, take, drop, Some, None, sym, refl, ap, ◌∙◌, subst, arith}
use Rattle.std.proofs.lemmas.List.{take_all, take-append-drop, drop_all, drop_more, drop-drop, length-drop}
use Rattle.std.proofs.lemmas.Bool.{cond-true, cond-false, eq-eqb, ne_eqb, eqb-true, ltb-true, ltb-false, both_ways}
use Rattle.grammar.specs.Pieces.{led, pieces, line_feed, lines, LineAt}

-- bytes without a separator
abbrev pub Free : ℕ → List ℕ → Type 0
Free s [] = Unit {0}
Free s (b ∷ bs) = (b ≡ s → ⊥) × Free s bs

pub free_push : (s b : ℕ) (w : List ℕ) → Free s w → (b ≡ s → ⊥) → Free s (w ++ (b ∷ []))
free_push s b [] f n = (n, tt)
free_push s b (c ∷ w) f n = (f.0, free_push s b w f.1 n)

-- the first piece ends at the first separator
pub pieces_front : (s : ℕ) (w rest : List ℕ) → Free s w → pieces s (w ++ (s ∷ rest)) ≡ w ∷ pieces s rest
unfolding pieces
pieces_front s [] rest f = cond-true (eqb s s) ([] ∷ pieces s rest) (led s (pieces s rest)) (eq-eqb s s refl)
pieces_front s (b ∷ w) rest f =
    cond-false (eqb b s) ([] ∷ pieces s (w ++ (s ∷ rest))) (led b (pieces s (w ++ (s ∷ rest)))) (ne_eqb b s f.0)
    ∙ ap (λ (ps : List (List ℕ)). led b ps) (pieces_front s w rest f.1)

-- without a separator there is one piece
pub pieces_last : (s : ℕ) (w : List ℕ) → Free s w → pieces s w ≡ w ∷ []
unfolding pieces
pieces_last s [] f = refl
pieces_last s (b ∷ w) f =
    cond-false (eqb b s) ([] ∷ pieces s w) (led b (pieces s w)) (ne_eqb b s f.0) ∙ ap (λ (ps : List (List ℕ)). led b ps) (pieces_last s w f.1)

-- pieces with a separator before each, and pieces put together
abbrev pub parted : ℕ → List (List ℕ) → List ℕ
parted s [] = []
parted s (w ∷ ws) = s ∷ (w ++ parted s ws)

abbrev pub glued : ℕ → List (List ℕ) → List ℕ
glued s [] = []
glued s (w ∷ ws) = w ++ parted s ws

pub pieces_some : (s : ℕ) (bs : List ℕ) → (p : List ℕ) × (ps : List (List ℕ)) × (pieces s bs ≡ p ∷ ps)
unfolding pieces
pieces_some s [] = ([], [], refl)
pieces_some s (b ∷ bs) = some (eqb b s) (pieces s bs)
  where
    led_some : (b : ℕ) (ps : List (List ℕ)) → (q : List ℕ) × (qs : List (List ℕ)) × (led b ps ≡ q ∷ qs)
    led_some b [] = (b ∷ [], [], refl)
    led_some b (p ∷ ps) = (b ∷ p, ps, refl)

    some : (t : Bool) (ps : List (List ℕ)) → (q : List ℕ) × (qs : List (List ℕ)) × (cond t ([] ∷ ps) (led b ps) ≡ q ∷ qs)
    some true ps = ([], ps, refl)
    some false ps = led_some b ps

pub pieces_glued : (s : ℕ) (bs : List ℕ) → glued s (pieces s bs) ≡ bs
unfolding pieces
pieces_glued s [] = refl
pieces_glued s (b ∷ bs) = both (eqb b s) refl (pieces_glued s bs)
  where
    led_glued : (ps : List (List ℕ)) → glued s (led b ps) ≡ b ∷ glued s ps
    led_glued [] = refl
    led_glued (p ∷ ps) = refl

    parted_glued : (ps : List (List ℕ)) (q : List ℕ) (qs : List (List ℕ)) → ps ≡ q ∷ qs → parted s ps ≡ s ∷ glued s ps
    parted_glued ps q qs e = subst (λ (xs : List (List ℕ)). parted s xs ≡ s ∷ glued s xs) (sym e) refl

    both : (t : Bool) → eqb b s ≡ t → glued s (pieces s bs) ≡ bs → glued s (cond t ([] ∷ pieces s bs) (led b (pieces s bs))) ≡ b ∷ bs
    both true e h =
        let p = pieces_some s bs in
        parted_glued (pieces s bs) p.0 p.1 p.2 ∙ ap (λ (xs : List ℕ). s ∷ xs) h ∙ ap (λ (x : ℕ). x ∷ bs) (sym (eqb-true b s e))
    both false e h = led_glued (pieces s bs) ∙ ap (λ (xs : List ℕ). b ∷ xs) h

to_end : (bytes : List ℕ) (start : ℕ) → slice_range bytes start (length bytes) ≡ drop start bytes
to_end bytes start = take_all (length bytes - start) (drop start bytes) (let d = length-drop start bytes in omega arith)

-- no separator stands before the first one
free_first : (s : ℕ) (bs : List ℕ) → Free s (take (position_or_len (λ (b : ℕ). eqb b s) bs) bs)
free_first s [] = tt
free_first s (b ∷ bs) = by (eqb b s) refl (free_first s bs)
  where
    by : (t : Bool) → eqb b s ≡ t → Free s (take (position_or_len (λ (c : ℕ). eqb c s) bs) bs) → Free s (take (cond (not t) (1 + position_or_len (λ (c : ℕ). eqb c s) bs) 0) (b ∷ bs))
    by true e f = tt
    by false e f = rw one-add (λ q. both_ways (eqb b s) e (eq-eqb b s q), f)

-- a text's first line ends at its first line feed
pub front_line : (text : List ℕ) (n : ℕ) → Some n ≡ position (λ (b : ℕ). eqb b line_feed) text → (n < length text) × (lines text ≡ take n text ∷ lines (drop (n + 1) text))
front_line text n e = by (ltb (position_or_len (λ (b : ℕ). eqb b line_feed) text) (length text)) refl e
  where
    at : n < length text → Free line_feed (take n text) → get_or text n 0 ≡ line_feed → lines text ≡ take n text ∷ lines (drop (n + 1) text)
    at l f g =
        let split : text ≡ take n text ++ (line_feed ∷ drop (n + 1) text) =
        sym (take-append-drop n text) ∙ ap (λ (ys : List ℕ). take n text ++ ys) (drop_more text n 0 l ∙ ap (λ (x : ℕ). x ∷ drop (n + 1) text) g) in
        ap lines split ∙ pieces_front line_feed (take n text) (drop (n + 1) text) f

    by : (t : Bool) → ltb (position_or_len (λ (b : ℕ). eqb b line_feed) text) (length text) ≡ t → Some n ≡ cond t (Some (position_or_len (λ (b : ℕ). eqb b line_feed) text)) None
        → (n < length text) × (lines text ≡ take n text ∷ lines (drop (n + 1) text))
    by true q e =
        let m : n ≡ position_or_len (λ (b : ℕ). eqb b line_feed) text = cc in
        let l = ltb-true _ _ q in (
          omega arith,
          at (omega arith) (subst (λ (i : ℕ). Free line_feed (take i text)) (sym m) (free_first line_feed text))
              (ap (λ (i : ℕ). get_or text i 0) m ∙ eqb-true _ _ (passes_at_first (λ (b : ℕ). eqb b line_feed) text 0 l)),
        )
    by false q e = let z : ◌≡◌ {A = ℕ} 0 1 = cc in absurd (omega arith)

-- and without one it has no line
pub no_line : (text : List ℕ) → None ≡ position (λ (b : ℕ). eqb b line_feed) text → lines text ≡ text ∷ []
no_line text e = by (ltb (position_or_len (λ (b : ℕ). eqb b line_feed) text) (length text)) refl e
  where
    by : (t : Bool) → ltb (position_or_len (λ (b : ℕ). eqb b line_feed) text) (length text) ≡ t → None ≡ cond t (Some (position_or_len (λ (b : ℕ). eqb b line_feed) text)) None → lines text ≡ text ∷ []
    by true q e = let z : ◌≡◌ {A = ℕ} 0 1 = cc in absurd (omega arith)
    by false q e = pieces_last line_feed text (subst (λ (ws : List ℕ). Free line_feed ws) (take_all _ text (ltb-false _ _ q)) (free_first line_feed text))

-- the line split off, and what follows it
pub line_split : (text line rest : List ℕ) (n : ℕ) → Some n ≡ position (λ (b : ℕ). eqb b line_feed) text → line ≡ take n text → rest ≡ drop n text
    → lines text ≡ line ∷ lines (take (length rest - 1) (drop 1 rest))
line_split text line rest n e f g =
    let h = front_line text n e in
    let d = length-drop 1 rest in
    let k = take_all (length rest - 1) (drop 1 rest) (omega arith) ∙ ap (λ (xs : List ℕ). drop 1 xs) g ∙ drop-drop 1 n text in
    h.1 ∙ ap (λ (xs : List ℕ). xs ∷ lines (drop (n + 1) text)) (sym f) ∙ ap (λ (xs : List ℕ). line ∷ lines xs) (sym k)

-- the same, where the line's end is known as that of the line at the start
pub line_split_at : (text line rest : List ℕ) (n : ℕ) → LineAt text 0 (Some n) → line ≡ take n text → rest ≡ drop n text
    → lines text ≡ line ∷ lines (take (length rest - 1) (drop 1 rest))
line_split_at text line rest n h f g =
    let d = length-drop 1 rest in
    let k = take_all (length rest - 1) (drop 1 rest) (omega arith) ∙ ap (λ (xs : List ℕ). drop 1 xs) g ∙ drop-drop 1 n text in
    let z : n - 0 ≡ n = omega arith in
    h.2
    ∙ ap (λ (i : ℕ). take i text ∷ lines (drop (n + 1) text)) z
    ∙ ap (λ (xs : List ℕ). xs ∷ lines (drop (n + 1) text)) (sym f)
    ∙ ap (λ (xs : List ℕ). line ∷ lines xs) (sym k)

-- the line that begins at a place
pub line_found : (bytes : List ℕ) (start : ℕ) (rest : List ℕ) (n : ℕ) → rest ≡ slice_range bytes start (length bytes) → Some n ≡ position (λ (b : ℕ). eqb b line_feed) rest → LineAt bytes start (Some (start + n))
line_found bytes start rest n r e =
    let q : rest ≡ drop start bytes = r ∙ to_end bytes start in
    let h = front_line rest n e in
    let d = length-drop start bytes in
    let m = ap length q in
    let j : start + (n + 1) ≡ start + n + 1 = omega arith in
    let z : start + n - start ≡ n = omega arith in (
      omega arith,
      omega (arith, h.0),
      ap lines (sym q)
          ∙ h.1
          ∙ ap (λ (ys : List ℕ). take n ys ∷ lines (drop (n + 1) ys)) q
          ∙ ap (λ (i : ℕ). take i (drop start bytes) ∷ lines (drop (n + 1) (drop start bytes))) (sym z)
          ∙ ap (λ (ys : List ℕ). take (start + n - start) (drop start bytes) ∷ lines ys) (drop-drop (n + 1) start bytes ∙ ap (λ (i : ℕ). drop i bytes) j),
    )

pub line_missing : (bytes : List ℕ) (start : ℕ) (rest : List ℕ) → rest ≡ slice_range bytes start (length bytes) → None ≡ position (λ (b : ℕ). eqb b line_feed) rest → LineAt bytes start None
line_missing bytes start rest r e = subst (λ (xs : List ℕ). lines xs ≡ xs ∷ []) (r ∙ to_end bytes start) (no_line rest e)

-- and none begins past the end
pub none_past : (bytes : List ℕ) (start : ℕ) → length bytes ≤ start → LineAt bytes start None
unfolding pieces
none_past bytes start l = let d = drop_all start bytes l in rw d refl
