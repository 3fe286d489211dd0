-- The cuts: they rise from 0 to the end, and every arrival and every deadline is one of them.
use Rattle.std.proofs.Common.{◌≡◌, ℕ, ◌<◌, ◌≤◌, max, Bool, true, false, cond, ◌&&◌, eqb, ltb, ◌⊎◌, List, [], ◌∷◌, drop, sym, refl, ap, ◌∙◌, subst, inl, inr, arith}
use Rattle.std.proofs.lemmas.Bool.{cases_lt, cases_order, or_cases, or_left, or_right, and_from, and_right, cond-true, cond-false, eqb-true, eq-eqb, ne_eqb, lt-ltb, le-ltb, false≢true}
use Rattle.model.specs.Sums.{some_of}
use Rattle.model.specs.Jobs.{span, arrives, due, insert, cuts}
use Rattle.model.specs.Path.{between}
use Rattle.model.specs.declared.job.Job.{Job}
use Rattle.theory.proofs.Levels.{Timely}
use Rattle.theory.proofs.Hulls.{Bare}
use Rattle.theory.proofs.Swept.{Times}
use Rattle.theory.specs.Sweep.{mark}

-- whether a time is one of a list
abbrev pub has : List ℕ → ℕ → Bool
has ts u = some_of (λ s. eqb s u) ts

-- a list that rises from n on
abbrev pub Up : ℕ → List ℕ → Type 0
Up n [] = Unit
Up n (t ∷ ts) = (n < t) × Up t ts

pub has_first : (t : ℕ) (ts : List ℕ) → has (t ∷ ts) t ≡ true
unfolding some_of
has_first t ts = or_left (eqb t t) (has ts t) (eq-eqb t t refl)

pub has_later : (t u : ℕ) (ts : List ℕ) → has ts u ≡ true → has (t ∷ ts) u ≡ true
unfolding some_of
has_later t u ts e = or_right (eqb t u) (has ts u) e

has_cases : (t u : ℕ) (ts : List ℕ) → has (t ∷ ts) u ≡ true → (t ≡ u) ⊎ (has ts u ≡ true)
unfolding some_of
has_cases t u ts e = elim (or_cases (eqb t u) (has ts u) e) [ inl f ↦ inl (eqb-true t u f) | inr f ↦ inr f ]

has_none : (u : ℕ) → has [] u ≡ true → ⊥
unfolding some_of
has_none u e = false≢true e

-- a rising list has nothing up to its start
up_above : (n u : ℕ) (ts : List ℕ) → Up n ts → has ts u ≡ true → n < u
up_above n u [] r e = absurd (has_none u e)
up_above n u (t ∷ ts) (l, r) e =
    elim (has_cases t u ts e) [
      | inl f ↦ omega arith
      | inr f ↦ let k = up_above t u ts r f in omega arith
    ]

-- a time put in
module _ (t s : ℕ) (ss : List ℕ) where
  insert_below : t < s → insert t (s ∷ ss) ≡ t ∷ (s ∷ ss)
  unfolding insert
  insert_below l = cond-true _ _ _ (lt-ltb t s l)

  insert_at : t ≡ s → insert t (s ∷ ss) ≡ s ∷ ss
  unfolding insert
  insert_at e = cond-false _ _ _ (le-ltb t s (omega arith)) ∙ cond-true _ _ _ (eq-eqb t s e)

  insert_above : s < t → insert t (s ∷ ss) ≡ s ∷ insert t ss
  unfolding insert
  insert_above l = cond-false _ _ _ (le-ltb t s (omega arith)) ∙ cond-false _ _ _ (ne_eqb t s (λ e. omega arith))

-- what holds of every outcome of putting t into s and the rest
insert_any : (P : List ℕ → Type 0) (t s : ℕ) (ss : List ℕ) → (t < s → P (t ∷ (s ∷ ss))) → (t ≡ s → P (s ∷ ss)) → (s < t → P (s ∷ insert t ss)) → P (insert t (s ∷ ss))
insert_any P t s ss a b c =
    elim (cases_order t s) [
      | inl e ↦ subst P (sym (insert_at t s ss e)) (b e)
      | inr d ↦ elim d [ inl l ↦ subst P (sym (insert_below t s ss l)) (a l) | inr l ↦ subst P (sym (insert_above t s ss l)) (c l) ]
    ]

insert_has : (t : ℕ) (ss : List ℕ) → has (insert t ss) t ≡ true
insert_has t [] = unfold insert in has_first t []
insert_has t (s ∷ ss) =
    let r = insert_has t ss in
    insert_any (λ w. has w t ≡ true) t s ss (λ l. has_first t (s ∷ ss)) (λ e. subst (λ (u : ℕ). has (s ∷ ss) u ≡ true) (sym e) (has_first s ss)) (λ l. has_later s t (insert t ss) r)

insert_keeps : (t u : ℕ) (ss : List ℕ) → has ss u ≡ true → has (insert t ss) u ≡ true
insert_keeps t u [] e = absurd (has_none u e)
insert_keeps t u (s ∷ ss) e =
    insert_any (λ w. has w u ≡ true) t s ss (λ l. has_later t u (s ∷ ss) e) (λ f. e)
    (λ l. elim (has_cases s u ss e) [
      | inl f ↦ subst (λ (v : ℕ). has (s ∷ insert t ss) v ≡ true) f (has_first s (insert t ss))
      | inr f ↦ has_later s u (insert t ss) (insert_keeps t u ss f)
    ])

insert_up : (n t : ℕ) (ss : List ℕ) → n < t → Up n ss → Up n (insert t ss)
insert_up n t [] l r = unfold insert in (l, tt)
insert_up n t (s ∷ ss) l (k, r) = insert_any (Up n) t s ss (λ j. (l, (j, r))) (λ e. (k, r)) (λ j. (k, insert_up s t ss j r))

-- nothing new but t
insert_under : (t b : ℕ) (ss : List ℕ) → t ≤ b → ((u : ℕ) → has ss u ≡ true → u ≤ b) → (u : ℕ) → has (insert t ss) u ≡ true → u ≤ b
insert_under t b [] l h = λ u e. elim (has_cases t u [] (unfold insert in e)) [ inl f ↦ omega arith | inr f ↦ absurd (has_none u f) ]
insert_under t b (s ∷ ss) l h =
    insert_any (λ w. (u : ℕ) → has w u ≡ true → u ≤ b) t s ss
    (λ j u e. elim (has_cases t u (s ∷ ss) e) [ inl f ↦ omega arith | inr f ↦ h u f ])
    (λ j u e. h u e)
    (λ j u e. elim (has_cases s u (insert t ss) e) [
      | inl f ↦ h u (subst (λ (v : ℕ). has (s ∷ ss) v ≡ true) f (has_first s ss))
      | inr f ↦ insert_under t b ss l (λ v g. h v (has_later s v ss g)) u f
    ])

-- the list of cuts starts at 0 and rises
From0 : List ℕ → Type 0
From0 ss = (ts : List ℕ) × (ss ≡ 0 ∷ ts) × Up 0 ts

insert_from_0 : (t : ℕ) (ss : List ℕ) → From0 ss → From0 (insert t ss)
unfolding From0
insert_from_0 t ss (ts, e, r) =
    elim (cases_lt 0 t) [
      | inl l ↦ (insert t ts, ap (insert t) e ∙ insert_above t 0 ts l, insert_up 0 t ts l r)
      | inr l ↦ (ts, ap (insert t) e ∙ insert_at t 0 ts (omega arith), r)
    ]

cuts_from_0 : (jobs : List Job) → From0 (cuts jobs)
unfolding From0 cuts
cuts_from_0 [] = ([], refl, tt)
cuts_from_0 (j ∷ js) = insert_from_0 j.arrival _ (insert_from_0 j.deadline _ (cuts_from_0 js))

pub cuts_arrivals : (jobs : List Job) (u : ℕ) → arrives jobs u ≡ true → has (cuts jobs) u ≡ true
unfolding cuts arrives some_of
cuts_arrivals [] u e = absurd (false≢true e)
cuts_arrivals (j ∷ js) u e =
    elim (or_cases (eqb j.arrival u) (arrives js u) e) [
      | inl f ↦ subst (λ (v : ℕ). has (cuts (j ∷ js)) v ≡ true) (eqb-true j.arrival u f) (insert_has j.arrival (insert j.deadline (cuts js)))
      | inr f ↦ insert_keeps j.arrival u (insert j.deadline (cuts js)) (insert_keeps j.deadline u (cuts js) (cuts_arrivals js u f))
    ]

pub cuts_deadlines : (jobs : List Job) (u : ℕ) → due jobs u ≡ true → has (cuts jobs) u ≡ true
unfolding cuts due some_of
cuts_deadlines [] u e = absurd (false≢true e)
cuts_deadlines (j ∷ js) u e =
    elim (or_cases (eqb j.deadline u) (due js u) e) [
      | inl f ↦ subst (λ (v : ℕ). has (cuts (j ∷ js)) v ≡ true) (eqb-true j.deadline u f)
          (insert_keeps j.arrival j.deadline (insert j.deadline (cuts js)) (insert_has j.deadline (cuts js)))
      | inr f ↦ insert_keeps j.arrival u (insert j.deadline (cuts js)) (insert_keeps j.deadline u (cuts js) (cuts_deadlines js u f))
    ]

pub cuts_span : (jobs : List Job) → has (cuts jobs) (span jobs) ≡ true
unfolding cuts span
cuts_span [] = has_first 0 []
cuts_span (j ∷ js) =
    elim (cases_lt j.deadline (span js)) [
      | inl l ↦
          let e : span js ≡ max j.deadline (span js) = omega arith in
          subst (λ (v : ℕ). has (cuts (j ∷ js)) v ≡ true) e (insert_keeps j.arrival (span js) (insert j.deadline (cuts js)) (insert_keeps j.deadline (span js) (cuts js) (cuts_span js)))
      | inr l ↦
          let e : j.deadline ≡ max j.deadline (span js) = omega arith in
          subst (λ (v : ℕ). has (cuts (j ∷ js)) v ≡ true) e (insert_keeps j.arrival j.deadline (insert j.deadline (cuts js)) (insert_has j.deadline (cuts js)))
    ]

pub cuts_under : (jobs : List Job) → Timely jobs → (u : ℕ) → has (cuts jobs) u ≡ true → u ≤ span jobs
unfolding cuts span
cuts_under [] h = λ u e. elim (has_cases 0 u [] e) [ inl f ↦ omega arith | inr f ↦ absurd (has_none u f) ]
cuts_under (j ∷ js) (l, h) =
    insert_under j.arrival (max j.deadline (span js)) (insert j.deadline (cuts js)) (omega arith)
    (insert_under j.deadline (max j.deadline (span js)) (cuts js) (omega arith) (λ u e. let k = cuts_under js h u e in omega arith))

-- every point of a wall is at a cut
marks_cut : (up : Bool) (jobs : List Job) (u : ℕ) → mark up jobs u ≡ true → has (cuts jobs) u ≡ true
unfolding mark
marks_cut true jobs u e =
    elim (or_cases (arrives jobs u) (eqb u (span jobs)) e) [
      | inl f ↦ cuts_arrivals jobs u f
      | inr f ↦ subst (λ (v : ℕ). has (cuts jobs) v ≡ true) (sym (eqb-true u (span jobs) f)) (cuts_span jobs)
    ]
marks_cut false jobs u e = cuts_deadlines jobs u e

-- a rising list that has all points of the walls up to the end is a list of times for the sweep
times_from : (jobs : List Job) (n : ℕ) (ts : List ℕ) → n ≤ span jobs → Up n ts → ((u : ℕ) → has ts u ≡ true → u ≤ span jobs)
    → ((up : Bool) (u : ℕ) → n < u → mark up jobs u ≡ true → has ts u ≡ true) → (n < span jobs → has ts (span jobs) ≡ true) → Times jobs n ts
times_from jobs n [] b r under all last = elim (cases_lt n (span jobs)) [ inl l ↦ absurd (has_none (span jobs) (last l)) | inr l ↦ omega arith ]
times_from jobs n (t ∷ ts) b (l, r) under all last =
    let k = under t (has_first t ts) in (
      l,
      k,
      (λ up u a c e. elim (has_cases t u ts (all up u a e)) [ inl f ↦ omega arith | inr f ↦ let g = up_above t u ts r f in omega arith ]),
      times_from jobs t ts k r (λ u e. under u (has_later t u ts e))
          (λ up u a e. elim (has_cases t u ts (all up u (omega arith) e)) [ inl f ↦ absurd (omega arith) | inr f ↦ f ])
          (λ a. elim (has_cases t (span jobs) ts (last (omega arith))) [ inl f ↦ absurd (omega arith) | inr f ↦ f ]),
    )

-- the cuts after 0 are times for the sweep
pub cuts_times : (jobs : List Job) → Timely jobs → Times jobs 0 (drop 1 (cuts jobs))
unfolding From0
cuts_times jobs h =
    let (ts, e, r) = cuts_from_0 jobs in
    subst (λ (ss : List ℕ). Times jobs 0 (drop 1 ss)) (sym e) (go ts e r)
  where
    back : (ts : List ℕ) → cuts jobs ≡ 0 ∷ ts → (u : ℕ) → has (cuts jobs) u ≡ true → has (0 ∷ ts) u ≡ true
    back ts e u f = subst (λ (ss : List ℕ). has ss u ≡ true) e f

    later : (ts : List ℕ) (u : ℕ) → 0 < u → has (0 ∷ ts) u ≡ true → has ts u ≡ true
    later ts u l f = elim (has_cases 0 u ts f) [ inl g ↦ absurd (omega arith) | inr g ↦ g ]

    go : (ts : List ℕ) → cuts jobs ≡ 0 ∷ ts → Up 0 ts → Times jobs 0 ts
    go ts e r =
        times_from jobs 0 ts (omega arith) r (λ u f. cuts_under jobs h u (subst (λ (ss : List ℕ). has ss u ≡ true) (sym e) (has_later 0 u ts f)))
        (λ up u l f. later ts u l (back ts e u (marks_cut up jobs u f)))
        (λ l. later ts (span jobs) l (back ts e (span jobs) (cuts_span jobs)))

-- the cuts strictly inside the span, with no point of a wall between neighbours
abbrev pub Inner : List Job → ℕ → List ℕ → Type 0
Inner jobs n [] = (up : Bool) → Bare up jobs n (span jobs)
Inner jobs n (t ∷ ts) = (n < t) × (t < span jobs) × ((up : Bool) → Bare up jobs n t) × Inner jobs t ts

between_inner : (jobs : List Job) (n : ℕ) (ts : List ℕ) → Times jobs n ts → Inner jobs n (between (span jobs) ts)
unfolding between
between_inner jobs n [] e = λ up t l k f. omega arith
between_inner jobs n (t ∷ ts) (l, b, bare, r) =
    elim (cases_lt t (span jobs)) [
      | inl k ↦ subst (Inner jobs n) (sym (cond-true (ltb 0 t && ltb t (span jobs)) (t ∷ between (span jobs) ts) (between (span jobs) ts) (and_from _ _ (lt-ltb 0 t (omega arith)) (lt-ltb t (span jobs) k))))
          (l, k, bare, between_inner jobs t ts r)
      | inr k ↦ subst (Inner jobs n) (sym (cond-false (ltb 0 t && ltb t (span jobs)) (t ∷ between (span jobs) ts) (between (span jobs) ts) (and_right _ _ (le-ltb t (span jobs) k))))
          (at_end ts r (omega arith))
    ]
  where
    at_end : (ss : List ℕ) → Times jobs t ss → t ≡ span jobs → Inner jobs n (between (span jobs) ss)
    at_end [] r e = λ up u a c f. bare up u a (omega arith) f
    at_end (s ∷ ss) (a, c, d, f) e = absurd (omega arith)

pub cuts_inner : (jobs : List Job) → Timely jobs → Inner jobs 0 (between (span jobs) (cuts jobs))
unfolding From0 between
cuts_inner jobs h =
    let (ts, e, r) = cuts_from_0 jobs in
    let t : Times jobs 0 ts = subst (λ (ss : List ℕ). Times jobs 0 (drop 1 ss)) e (cuts_times jobs h) in
    subst (λ (ss : List ℕ). Inner jobs 0 (between (span jobs) ss)) (sym e) (between_inner jobs 0 ts t)

-- a time between is one of the list
pub between_has : (end u : ℕ) (ts : List ℕ) → has (between end ts) u ≡ true → has ts u ≡ true
unfolding between
between_has end u [] e = e
between_has end u (t ∷ ts) e = go (ltb 0 t && ltb t end) e (between_has end u ts)
  where
    go : (b : Bool) → has (cond b (t ∷ between end ts) (between end ts)) u ≡ true → (has (between end ts) u ≡ true → has ts u ≡ true) → has (t ∷ ts) u ≡ true
    go true f r = elim (has_cases t u (between end ts) f) [ inl g ↦ subst (λ (v : ℕ). has (t ∷ ts) v ≡ true) g (has_first t ts) | inr g ↦ has_later t u ts (r g) ]
    go false f r = has_later t u ts (r f)
