-- Runs set after a plan one by one: what comes of it is what joining all of them from the right gives.
use Rattle.std.proofs.Common.{◌≡◌, ℕ, ◌+◌, ◌-◌, ◌<◌, ◌≤◌, eqb, List, [], ◌∷◌, ◌++◌, length, get_or, take, set, sym, refl, ap, ◌∙◌, subst, inl, inr, add_assoc, arith}
use Rattle.std.proofs.lemmas.List.{append_assoc, append-nil, take_more, take_more_set}
use Rattle.std.proofs.lemmas.Bool.{cond-true, cond-false, cases_eq, eq-eqb, ne_eqb}
use Rattle.model.specs.Sums.{sum_of}
use Rattle.model.specs.Plan.{segment, attach, joined, ticks_of}
use Rattle.model.specs.declared.segment.Segment.{Segment}
use Rattle.theory.proofs.Runs.{attach_none, attach_last, attach_same, attach_other}
use Rattle.draw.specs.Gathered.{added, gathered}

-- the cases of a run set after a plan
pub added_none : (ns : List Segment) (s : Segment) → s.ticks ≡ 0 → added ns s ≡ ns
unfolding added
added_none [] s e = cond-true (eqb s.ticks 0) _ _ (eq-eqb _ _ e)
added_none (n ∷ []) s e = cond-true (eqb s.ticks 0) _ _ (eq-eqb _ _ e)
added_none (n ∷ (m ∷ ms)) s e = ap (λ (x : List Segment). n ∷ x) (added_none (m ∷ ms) s e)

pub added_first : (s : Segment) → (s.ticks ≡ 0 → ⊥) → added [] s ≡ s ∷ []
unfolding added
added_first s e = cond-false (eqb s.ticks 0) _ _ (ne_eqb _ _ e)

one_same : (n s : Segment) → (s.ticks ≡ 0 → ⊥) → n.step ≡ s.step → added (n ∷ []) s ≡ segment n.step (n.ticks + s.ticks) ∷ []
unfolding added
one_same n s e f = cond-false (eqb s.ticks 0) _ _ (ne_eqb _ _ e) ∙ cond-true (eqb n.step s.step) _ _ (eq-eqb _ _ f)

one_other : (n s : Segment) → (s.ticks ≡ 0 → ⊥) → (n.step ≡ s.step → ⊥) → added (n ∷ []) s ≡ n ∷ (s ∷ [])
unfolding added
one_other n s e f = cond-false (eqb s.ticks 0) _ _ (ne_eqb _ _ e) ∙ cond-false (eqb n.step s.step) _ _ (ne_eqb _ _ f)

-- only the last segment matters
added_later : (x : Segment) (xs : List Segment) (n s : Segment) → added (x ∷ (xs ++ (n ∷ []))) s ≡ x ∷ added (xs ++ (n ∷ [])) s
unfolding added
added_later x [] n s = refl
added_later x (y ∷ ys) n s = refl

pub added_same : (xs : List Segment) (n s : Segment) → (s.ticks ≡ 0 → ⊥) → n.step ≡ s.step
    → added (xs ++ (n ∷ [])) s ≡ xs ++ (segment n.step (n.ticks + s.ticks) ∷ [])
added_same [] n s e f = one_same n s e f
added_same (x ∷ xs) n s e f = added_later x xs n s ∙ ap (λ (y : List Segment). x ∷ y) (added_same xs n s e f)

pub added_other : (xs : List Segment) (n s : Segment) → (s.ticks ≡ 0 → ⊥) → (n.step ≡ s.step → ⊥)
    → added (xs ++ (n ∷ [])) s ≡ (xs ++ (n ∷ [])) ++ (s ∷ [])
added_other [] n s e f = one_other n s e f
added_other (x ∷ xs) n s e f = added_later x xs n s ∙ ap (λ (y : List Segment). x ∷ y) (added_other xs n s e f)

-- a run set before and one set after may be set in either order
attach_added_one : (x n s : Segment) → (x.ticks ≡ 0 → ⊥) → (s.ticks ≡ 0 → ⊥) → attach x (added (n ∷ []) s) ≡ added (attach x (n ∷ [])) s
unfolding segment
attach_added_one x n s e f =
    elim (cases_eq x.step n.step) [
      | inl g ↦ elim (cases_eq n.step s.step) [
        | inl h ↦
            ap (attach x) (one_same n s f h)
            ∙ (attach_same x (segment n.step (n.ticks + s.ticks)) [] e g
            ∙ (ap (λ (k : ℕ). segment n.step k ∷ []) (sym (add_assoc x.ticks n.ticks s.ticks))
            ∙ (sym (one_same (segment n.step (x.ticks + n.ticks)) s f h) ∙ ap (λ (y : List Segment). added y s) (sym (attach_same x n [] e g)))))
        | inr h ↦
            ap (attach x) (one_other n s f h)
            ∙ (attach_same x n (s ∷ []) e g
            ∙ (sym (one_other (segment n.step (x.ticks + n.ticks)) s f h) ∙ ap (λ (y : List Segment). added y s) (sym (attach_same x n [] e g))))
      ]
      | inr g ↦ elim (cases_eq n.step s.step) [
        | inl h ↦
            ap (attach x) (one_same n s f h)
            ∙ (attach_other x (segment n.step (n.ticks + s.ticks)) [] e g
            ∙ (sym (added_same (x ∷ []) n s f h) ∙ ap (λ (y : List Segment). added y s) (sym (attach_other x n [] e g))))
        | inr h ↦
            ap (attach x) (one_other n s f h)
            ∙ (attach_other x n (s ∷ []) e g
            ∙ (sym (added_other (x ∷ []) n s f h) ∙ ap (λ (y : List Segment). added y s) (sym (attach_other x n [] e g))))
      ]
    ]

attach_added_some : (x : Segment) (ns : List Segment) (s : Segment) → (x.ticks ≡ 0 → ⊥) → (s.ticks ≡ 0 → ⊥) → attach x (added ns s) ≡ added (attach x ns) s
unfolding added
attach_added_some x [] s e f =
    ap (attach x) (added_first s f)
    ∙ (elim (cases_eq x.step s.step) [
      | inl g ↦ attach_same x s [] e g ∙ (ap (λ (k : ℕ). segment k (x.ticks + s.ticks) ∷ []) (sym g) ∙ sym (one_same x s f g))
      | inr g ↦ attach_other x s [] e g ∙ sym (one_other x s f g)
    ]
    ∙ ap (λ (y : List Segment). added y s) (sym (attach_last x e)))
attach_added_some x (n ∷ []) s e f = attach_added_one x n s e f
attach_added_some x (n ∷ (m ∷ ms)) s e f =
    elim (cases_eq x.step n.step) [
      | inl g ↦ attach_same x n (added (m ∷ ms) s) e g ∙ ap (λ (y : List Segment). added y s) (sym (attach_same x n (m ∷ ms) e g))
      | inr g ↦ attach_other x n (added (m ∷ ms) s) e g ∙ ap (λ (y : List Segment). added y s) (sym (attach_other x n (m ∷ ms) e g))
    ]

attach_added : (x : Segment) (ns : List Segment) (s : Segment) → attach x (added ns s) ≡ added (attach x ns) s
attach_added x ns s =
    elim (cases_eq x.ticks 0) [
      | inl e ↦ attach_none x (added ns s) e ∙ ap (λ (y : List Segment). added y s) (sym (attach_none x ns e))
      | inr e ↦ elim (cases_eq s.ticks 0) [
        | inl f ↦ ap (attach x) (added_none ns s f) ∙ sym (added_none (attach x ns) s f)
        | inr f ↦ attach_added_some x ns s e f
      ]
    ]

-- one run more
joined_push : (xs : List Segment) (s : Segment) → joined (xs ++ (s ∷ [])) ≡ added (joined xs) s
unfolding joined
joined_push [] s = one
  where
    one : attach s [] ≡ added [] s
    one = elim (cases_eq s.ticks 0) [
      | inl e ↦ attach_none s [] e ∙ sym (added_none [] s e)
      | inr e ↦ attach_last s e ∙ sym (added_first s e)
    ]
joined_push (x ∷ xs) s = ap (attach x) (joined_push xs s) ∙ attach_added x (joined xs) s

gathered_joined : (xs ss : List Segment) → gathered (joined xs) ss ≡ joined (xs ++ ss)
unfolding gathered
gathered_joined xs [] = ap joined (sym (append-nil xs))
gathered_joined xs (s ∷ ss) =
    ap (λ (y : List Segment). gathered y ss) (sym (joined_push xs s))
    ∙ (gathered_joined (xs ++ (s ∷ [])) ss ∙ ap joined (append_assoc xs (s ∷ []) ss))

-- all runs gathered from nothing are the joined list
pub gathered_all : (ss : List Segment) → gathered [] ss ≡ joined ss
unfolding joined
gathered_all ss = gathered_joined [] ss

pub gathered_more : (ns ss ts : List Segment) → gathered ns (ss ++ ts) ≡ gathered (gathered ns ss) ts
unfolding gathered
gathered_more ns [] ts = refl
gathered_more ns (s ∷ ss) ts = gathered_more (added ns s) ss ts

-- the ticks add up
ticks_added_some : (ns : List Segment) (s : Segment) → (s.ticks ≡ 0 → ⊥) → ticks_of (added ns s) ≡ ticks_of ns + s.ticks
unfolding added ticks_of sum_of segment
ticks_added_some [] s e = let a = ap ticks_of (added_first s e) in omega arith
ticks_added_some (n ∷ []) s e =
    elim (cases_eq n.step s.step) [
      | inl f ↦ let a = ap ticks_of (one_same n s e f) in omega arith
      | inr f ↦ let a = ap ticks_of (one_other n s e f) in omega arith
    ]
ticks_added_some (n ∷ (m ∷ ms)) s e = let a = ticks_added_some (m ∷ ms) s e in omega arith

ticks_added : (ns : List Segment) (s : Segment) → ticks_of (added ns s) ≡ ticks_of ns + s.ticks
ticks_added ns s =
    elim (cases_eq s.ticks 0) [
      | inl e ↦ let a = ap ticks_of (added_none ns s e) in omega arith
      | inr e ↦ ticks_added_some ns s e
    ]

-- a list that has come of adding
pub ticks_put : (xs ns : List Segment) (s : Segment) → xs ≡ added ns s → ticks_of xs ≡ ticks_of ns + s.ticks
ticks_put xs ns s e = ap ticks_of e ∙ ticks_added ns s

pub two_put : (xs ys ns : List Segment) (s t : Segment) → xs ≡ added ys t → ys ≡ added ns s → xs ≡ gathered ns (s ∷ (t ∷ []))
unfolding gathered
two_put xs ys ns s t e f = e ∙ ap (λ (x : List Segment). added x t) f

ticks_gathered : (ns ss : List Segment) → ticks_of (gathered ns ss) ≡ ticks_of ns + ticks_of ss
unfolding gathered ticks_of sum_of
ticks_gathered ns [] = omega arith
ticks_gathered ns (s ∷ ss) = let a = ticks_gathered (added ns s) ss in let b = ticks_added ns s in omega arith

-- as a list that has come of gathering
pub ticks_drawn : (xs ns ss : List Segment) → xs ≡ gathered ns ss → ticks_of xs ≡ ticks_of ns + ticks_of ss
ticks_drawn xs ns ss e = ap ticks_of e ∙ ticks_gathered ns ss

-- the last of the first `n` segments has no more ticks than all of them
ticks_last : (ys : List Segment) (s : Segment) → s.ticks ≤ ticks_of (ys ++ (s ∷ []))
unfolding ticks_of sum_of
ticks_last [] s = omega arith
ticks_last (y ∷ ys) s = let a = ticks_last ys s in omega arith

pub last_ticks : (xs : List Segment) (n : ℕ) (d : Segment) → 0 < n → n ≤ length xs → (get_or xs (n - 1) d).ticks ≤ ticks_of (take n xs)
last_ticks xs n d l k =
    let e : n - 1 + 1 ≡ n = omega arith in
    let a = take_more xs (n - 1) d (omega arith) in
    let b : take n xs ≡ take (n - 1) xs ++ (get_or xs (n - 1) d ∷ []) = subst (λ (m : ℕ). take m xs ≡ take (n - 1) xs ++ (get_or xs (n - 1) d ∷ [])) e a in
    let c = ap ticks_of b in
    let f = ticks_last (take (n - 1) xs) (get_or xs (n - 1) d) in
    omega arith

-- a run put into an array after its first n segments: joined to the last, or at the next place
pub put_same : (xs : List Segment) (n : ℕ) (s d : Segment) → 0 < n → n ≤ length xs → (s.ticks ≡ 0 → ⊥) → (get_or xs (n - 1) d).step ≡ s.step
    → take n (set xs (n - 1) (segment (get_or xs (n - 1) d).step ((get_or xs (n - 1) d).ticks + s.ticks))) ≡ added (take n xs) s
put_same xs n s d l k e f =
    let q : n - 1 + 1 ≡ n = omega arith in
    let a = take_more xs (n - 1) d (omega arith) in
    let b = take_more_set xs (n - 1) (segment (get_or xs (n - 1) d).step ((get_or xs (n - 1) d).ticks + s.ticks)) (omega arith) in
    subst (λ (m : ℕ). take m (set xs (n - 1) (segment (get_or xs (n - 1) d).step ((get_or xs (n - 1) d).ticks + s.ticks))) ≡ added (take m xs) s) q
    (b ∙ (sym (added_same (take (n - 1) xs) (get_or xs (n - 1) d) s e f) ∙ ap (λ (y : List Segment). added y s) (sym a)))

pub put_other : (xs : List Segment) (n : ℕ) (s d : Segment) → 0 < n → n < length xs → (s.ticks ≡ 0 → ⊥) → ((get_or xs (n - 1) d).step ≡ s.step → ⊥)
    → take (n + 1) (set xs n s) ≡ added (take n xs) s
put_other xs n s d l k e f =
    let q : n - 1 + 1 ≡ n = omega arith in
    let a = take_more xs (n - 1) d (omega arith) in
    let b : take n xs ≡ take (n - 1) xs ++ (get_or xs (n - 1) d ∷ []) = subst (λ (m : ℕ). take m xs ≡ take (n - 1) xs ++ (get_or xs (n - 1) d ∷ [])) q a in
    take_more_set xs n s k
    ∙ (ap (λ (y : List Segment). y ++ (s ∷ [])) b
    ∙ (sym (added_other (take (n - 1) xs) (get_or xs (n - 1) d) s e f) ∙ ap (λ (y : List Segment). added y s) (sym b)))

pub put_first : (xs : List Segment) (n : ℕ) (s : Segment) → n ≡ 0 → n < length xs → (s.ticks ≡ 0 → ⊥) → take (n + 1) (set xs n s) ≡ added (take n xs) s
put_first xs n s z k e =
    subst (λ (m : ℕ). m < length xs → take (m + 1) (set xs m s) ≡ added (take m xs) s) (sym z) (λ l. take_more_set xs 0 s l ∙ sym (added_first s e)) k
