-- The cuts of the jobs: a strictly rising list that begins with 0, holds every arrival and every deadline, and ends with the span.
-- `insert` puts one time in its place, so each fact goes from the list before to the list after.
use Rattle.std.proofs.Common.{◌≡◌, ℕ, zero, suc, ◌<◌, ◌≤◌, max, eqb, ltb, ◌⊎◌, List, [], ◌∷◌, length, sym, refl, ap, ◌∙◌, subst, inl, inr, arith}
use Rattle.std.proofs.lemmas.Bool.{cond-true, cond-false, cases_lt, cases_order, lt-ltb, le-ltb, eq-eqb, ne_eqb}
use Rattle.model.specs.Jobs.{job_at, Ordered, span, insert, cuts}
use Rattle.model.specs.declared.job.Job.{Job}

-- x is one of the times
abbrev pub Among : ℕ → List ℕ → Type 0
Among x [] = ⊥
Among x (t ∷ ts) = (x ≡ t) ⊎ Among x ts

-- the times rise strictly, from above b on
abbrev pub Rises : ℕ → List ℕ → Type 0
Rises b [] = Unit
Rises b (t ∷ ts) = (b < t) × Rises t ts

-- a list that rises from b on has nothing at or below b
pub rises_above : (b : ℕ) (ts : List ℕ) → Rises b ts → (x : ℕ) → Among x ts → b < x
rises_above b [] r x m = absurd m
rises_above b (t ∷ ts) r x (inl e) = let l = r.0 in omega arith
rises_above b (t ∷ ts) r x (inr m) = let l = r.0 in let k = rises_above t ts r.1 x m in omega arith

-- the three cases of an insertion
insert_before : (t s : ℕ) (ss : List ℕ) → t < s → insert t (s ∷ ss) ≡ t ∷ (s ∷ ss)
unfolding insert
insert_before t s ss l = cond-true (ltb t s) _ _ (lt-ltb t s l)

insert_same : (t s : ℕ) (ss : List ℕ) → t ≡ s → insert t (s ∷ ss) ≡ s ∷ ss
unfolding insert
insert_same t s ss e = cond-false (ltb t s) _ _ (le-ltb t s (omega arith)) ∙ cond-true (eqb t s) _ _ (eq-eqb t s e)

insert_after : (t s : ℕ) (ss : List ℕ) → s < t → insert t (s ∷ ss) ≡ s ∷ insert t ss
unfolding insert
insert_after t s ss l = cond-false (ltb t s) _ _ (le-ltb t s (omega arith)) ∙ cond-false (eqb t s) _ _ (ne_eqb t s (λ e. omega arith))

insert_rises : (b t : ℕ) (ss : List ℕ) → b < t → Rises b ss → Rises b (insert t ss)
unfolding insert
insert_rises b t [] l r = (l, tt)
insert_rises b t (s ∷ ss) l r =
    elim (cases_order t s) [
      | inl e ↦ subst (Rises b) (sym (insert_same t s ss e)) r
      | inr (inl k) ↦ subst (Rises b) (sym (insert_before t s ss k)) (l, (k, r.1))
      | inr (inr k) ↦ subst (Rises b) (sym (insert_after t s ss k)) (r.0, insert_rises s t ss k r.1)
    ]

-- what is inserted is there, and so is what was there
insert_there : (t : ℕ) (ss : List ℕ) → Among t (insert t ss)
unfolding insert
insert_there t [] = inl refl
insert_there t (s ∷ ss) =
    elim (cases_order t s) [
      | inl e ↦ subst (Among t) (sym (insert_same t s ss e)) (inl e)
      | inr (inl k) ↦ subst (Among t) (sym (insert_before t s ss k)) (inl refl)
      | inr (inr k) ↦ subst (Among t) (sym (insert_after t s ss k)) (inr (insert_there t ss))
    ]

insert_keeps : (t : ℕ) (ss : List ℕ) (x : ℕ) → Among x ss → Among x (insert t ss)
unfolding insert
insert_keeps t [] x m = absurd m
insert_keeps t (s ∷ ss) x m =
    elim (cases_order t s) [
      | inl e ↦ subst (Among x) (sym (insert_same t s ss e)) m
      | inr (inl k) ↦ subst (Among x) (sym (insert_before t s ss k)) (inr m)
      | inr (inr k) ↦ subst (Among x) (sym (insert_after t s ss k)) (further (insert_keeps t ss x) m)
    ]
  where
    further : (Among x ss → Among x (insert t ss)) → Among x (s ∷ ss) → Among x (s ∷ insert t ss)
    further more (inl e) = inl e
    further more (inr n) = inr (more n)

-- and nothing else
pub insert_only : (t : ℕ) (ss : List ℕ) (x : ℕ) → Among x (insert t ss) → (x ≡ t) ⊎ Among x ss
unfolding insert
insert_only t [] x (inl e) = inl e
insert_only t [] x (inr m) = absurd m
insert_only t (s ∷ ss) x m =
    elim (cases_order t s) [
      | inl e ↦ inr (subst (Among x) (insert_same t s ss e) m)
      | inr (inl k) ↦ subst (Among x) (insert_before t s ss k) m
      | inr (inr k) ↦ further (insert_only t ss x) (subst (Among x) (insert_after t s ss k) m)
    ]
  where
    further : (Among x (insert t ss) → (x ≡ t) ⊎ Among x ss) → Among x (s ∷ insert t ss) → (x ≡ t) ⊎ Among x (s ∷ ss)
    further more (inl e) = inr (inl e)
    further more (inr n) = elim (more n) [ inl e ↦ inl e | inr k ↦ inr (inr k) ]

-- book order of all jobs but the first
pub ordered_tail : (j : Job) (js : List Job) → Ordered (j ∷ js) → Ordered js
unfolding job_at
ordered_tail j js o = record {
  timely = λ i l. o.timely (suc i) (omega arith);
  worked = λ i l. o.worked (suc i) (omega arith);
  arrivals = λ i l. o.arrivals (suc i) (omega arith);
  deadlines = λ i l. o.deadlines (suc i) (omega arith);
}

-- a list that begins with 0 and rises from there
Rooted : List ℕ → Type 0
Rooted ts = (rest : List ℕ) × (ts ≡ 0 ∷ rest) × Rises 0 rest

insert_rooted : (t : ℕ) (ts : List ℕ) → Rooted ts → Rooted (insert t ts)
unfolding Rooted
insert_rooted t ts (rest, e, r) =
    elim (cases_lt 0 t) [
      | inl l ↦ (insert t rest, ap (insert t) e ∙ insert_after t 0 rest l, insert_rises 0 t rest l r)
      | inr l ↦ (rest, ap (insert t) e ∙ insert_same t 0 rest (omega arith), r)
    ]

-- the cuts begin with 0 and rise
pub cuts_rooted : (jobs : List Job) → (rest : List ℕ) × (cuts jobs ≡ 0 ∷ rest) × Rises 0 rest
unfolding cuts Rooted
cuts_rooted [] = ([], refl, tt)
cuts_rooted (j ∷ js) = insert_rooted j.arrival (insert j.deadline (cuts js)) (insert_rooted j.deadline (cuts js) (cuts_rooted js))

-- every arrival and every deadline is a cut
pub arrival_cut : (jobs : List Job) (i : ℕ) → i < length jobs → Among (job_at jobs i).arrival (cuts jobs)
unfolding cuts job_at
arrival_cut [] i l = absurd (omega arith)
arrival_cut (j ∷ js) zero l = insert_there j.arrival (insert j.deadline (cuts js))
arrival_cut (j ∷ js) (suc i) l =
    let a = arrival_cut js i (omega arith) in
    insert_keeps j.arrival (insert j.deadline (cuts js)) (job_at js i).arrival (insert_keeps j.deadline (cuts js) (job_at js i).arrival a)

pub deadline_cut : (jobs : List Job) (i : ℕ) → i < length jobs → Among (job_at jobs i).deadline (cuts jobs)
unfolding cuts job_at
deadline_cut [] i l = absurd (omega arith)
deadline_cut (j ∷ js) zero l = insert_keeps j.arrival (insert j.deadline (cuts js)) j.deadline (insert_there j.deadline (cuts js))
deadline_cut (j ∷ js) (suc i) l =
    let a = deadline_cut js i (omega arith) in
    insert_keeps j.arrival (insert j.deadline (cuts js)) (job_at js i).deadline (insert_keeps j.deadline (cuts js) (job_at js i).deadline a)

-- the span is a cut, and none is later
pub span_cut : (jobs : List Job) → Among (span jobs) (cuts jobs)
unfolding cuts span
span_cut [] = inl refl
span_cut (j ∷ js) =
    elim (cases_lt (span js) j.deadline) [
      | inl l ↦
          let e : max j.deadline (span js) ≡ j.deadline = omega arith in
          rw e (insert_keeps j.arrival (insert j.deadline (cuts js)) j.deadline (insert_there j.deadline (cuts js)))
      | inr l ↦
          let e : max j.deadline (span js) ≡ span js = omega arith in
          rw e (insert_keeps j.arrival (insert j.deadline (cuts js)) (span js) (insert_keeps j.deadline (cuts js) (span js) (span_cut js)))
    ]

pub cut_in_span : (jobs : List Job) → Ordered jobs → (x : ℕ) → Among x (cuts jobs) → x ≤ span jobs
unfolding cuts span job_at
cut_in_span [] o x (inl e) = omega arith
cut_in_span [] o x (inr m) = absurd m
cut_in_span (j ∷ js) o x m =
    let on : j.arrival < j.deadline = o.timely 0 (omega arith) in
    elim (insert_only j.arrival (insert j.deadline (cuts js)) x m) [
      | inl e ↦ omega arith
      | inr n ↦ elim (insert_only j.deadline (cuts js) x n) [
        | inl e ↦ omega arith
        | inr k ↦ let b = cut_in_span js (ordered_tail j js o) x k in omega arith
      ]
    ]
