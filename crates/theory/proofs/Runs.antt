-- Plans as lists of runs: what a plan does tick by tick is what its runs say, and joining neighbours of one step changes neither.
use Rattle.std.proofs.Common.{◌≡◌, ℕ, ◌+◌, ◌-◌, ◌*◌, ◌<◌, ◌≤◌, eqb, ltb, List, [], ◌∷◌, sym, refl, ap, ◌∙◌, inl, inr, mul-zero, mul-add, arith}
use Rattle.std.proofs.lemmas.Bool.{cond-true, cond-false, cases_lt, cases_eq, lt-ltb, le-ltb, eq-eqb, ne_eqb}
use Rattle.model.specs.Sums.{sum_to, sum_of}
use Rattle.model.specs.Steps.{power_at}
use Rattle.model.specs.Plan.{segment, attach, joined, ticks_of, energy}
use Rattle.model.specs.Ways.{step_of}
use Rattle.model.specs.declared.segment.Segment.{Segment}
use Rattle.model.specs.declared.step.Step.{Step}
use Rattle.model.proofs.Sums.{sum_to_cong, sum_to_split, sum_to_const}

-- the step of a tick inside the first run, and after it
pub step_first : (s : Segment) (ss : List Segment) (m : ℕ) → m < s.ticks → step_of (s ∷ ss) m ≡ s.step
unfolding step_of
step_first s ss m l = cond-true (ltb m s.ticks) _ _ (lt-ltb m s.ticks l)

pub step_rest : (s : Segment) (ss : List Segment) (m : ℕ) → s.ticks ≤ m → step_of (s ∷ ss) m ≡ step_of ss (m - s.ticks)
unfolding step_of
step_rest s ss m l = cond-false (ltb m s.ticks) _ _ (le-ltb m s.ticks l)

-- the three cases of a run set before a plan
pub attach_none : (s : Segment) (ns : List Segment) → s.ticks ≡ 0 → attach s ns ≡ ns
unfolding attach
attach_none s [] e = cond-true (eqb s.ticks 0) _ _ (eq-eqb _ _ e)
attach_none s (n ∷ ns) e = cond-true (eqb s.ticks 0) _ _ (eq-eqb _ _ e)

pub attach_last : (s : Segment) → (s.ticks ≡ 0 → ⊥) → attach s [] ≡ s ∷ []
unfolding attach
attach_last s e = cond-false (eqb s.ticks 0) _ _ (ne_eqb _ _ e)

pub attach_same : (s n : Segment) (ns : List Segment) → (s.ticks ≡ 0 → ⊥) → s.step ≡ n.step → attach s (n ∷ ns) ≡ segment n.step (s.ticks + n.ticks) ∷ ns
unfolding attach
attach_same s n ns e f = cond-false (eqb s.ticks 0) _ _ (ne_eqb _ _ e) ∙ cond-true (eqb s.step n.step) _ _ (eq-eqb _ _ f)

pub attach_other : (s n : Segment) (ns : List Segment) → (s.ticks ≡ 0 → ⊥) → (s.step ≡ n.step → ⊥) → attach s (n ∷ ns) ≡ s ∷ (n ∷ ns)
unfolding attach
attach_other s n ns e f = cond-false (eqb s.ticks 0) _ _ (ne_eqb _ _ e) ∙ cond-false (eqb s.step n.step) _ _ (ne_eqb _ _ f)

-- two runs of one step, as one
step_merged : (s n : Segment) (ns : List Segment) → s.step ≡ n.step → (m : ℕ) → step_of (segment n.step (s.ticks + n.ticks) ∷ ns) m ≡ step_of (s ∷ (n ∷ ns)) m
unfolding segment
step_merged s n ns e m =
    elim (cases_lt m s.ticks) [
      | inl l ↦ step_first (segment n.step (s.ticks + n.ticks)) ns m (omega arith) ∙ (sym e ∙ sym (step_first s (n ∷ ns) m l))
      | inr l ↦ elim (cases_lt m (s.ticks + n.ticks)) [
        | inl k ↦
            step_first (segment n.step (s.ticks + n.ticks)) ns m k
            ∙ sym (step_rest s (n ∷ ns) m l ∙ step_first n ns (m - s.ticks) (omega arith))
        | inr k ↦
            let d : m - (s.ticks + n.ticks) ≡ m - s.ticks - n.ticks = omega arith in
            step_rest (segment n.step (s.ticks + n.ticks)) ns m k
            ∙ (ap (step_of ns) d ∙ sym (step_rest s (n ∷ ns) m l ∙ step_rest n ns (m - s.ticks) (omega arith)))
      ]
    ]

step_attach : (s : Segment) (ns : List Segment) (m : ℕ) → step_of (attach s ns) m ≡ step_of (s ∷ ns) m
step_attach s ns m =
    elim (cases_eq s.ticks 0) [
      | inl e ↦ ap (λ (x : List Segment). step_of x m) (attach_none s ns e) ∙ sym (step_rest s ns m (omega arith) ∙ ap (step_of ns) (let d : m - s.ticks ≡ m = omega arith in d))
      | inr e ↦ some ns e
    ]
  where
    some : (ns : List Segment) → (s.ticks ≡ 0 → ⊥) → step_of (attach s ns) m ≡ step_of (s ∷ ns) m
    some [] e = ap (λ (x : List Segment). step_of x m) (attach_last s e)
    some (n ∷ ns) e =
        elim (cases_eq s.step n.step) [
          | inl f ↦ ap (λ (x : List Segment). step_of x m) (attach_same s n ns e f) ∙ step_merged s n ns f m
          | inr f ↦ ap (λ (x : List Segment). step_of x m) (attach_other s n ns e f)
        ]

-- joining keeps the step of every tick
pub step_joined : (ss : List Segment) (m : ℕ) → step_of (joined ss) m ≡ step_of ss m
unfolding joined
step_joined [] m = refl
step_joined (s ∷ ss) m =
    step_attach s (joined ss) m ∙
    elim (cases_lt m s.ticks) [
      | inl l ↦ step_first s (joined ss) m l ∙ sym (step_first s ss m l)
      | inr l ↦ step_rest s (joined ss) m l ∙ (step_joined ss (m - s.ticks) ∙ sym (step_rest s ss m l))
    ]

-- joining keeps every sum over runs that adds up with the ticks
module _ (worth : ℕ → ℕ → ℕ) (none : (h : ℕ) → worth h 0 ≡ 0) (more : (h a b : ℕ) → worth h (a + b) ≡ worth h a + worth h b) where
  sum_attach : (s : Segment) (ns : List Segment) → sum_of (λ (r : Segment). worth r.step r.ticks) (attach s ns) ≡ worth s.step s.ticks + sum_of (λ (r : Segment). worth r.step r.ticks) ns
  unfolding sum_of segment
  sum_attach s ns =
      elim (cases_eq s.ticks 0) [
        | inl e ↦
            let a = ap (sum_of (λ (r : Segment). worth r.step r.ticks)) (attach_none s ns e) in
            let b = ap (worth s.step) e in
            let c = none s.step in
            omega arith
        | inr e ↦ some ns e
      ]
    where
      some : (ns : List Segment) → (s.ticks ≡ 0 → ⊥) → sum_of (λ (r : Segment). worth r.step r.ticks) (attach s ns) ≡ worth s.step s.ticks + sum_of (λ (r : Segment). worth r.step r.ticks) ns
      some [] e = ap (sum_of (λ (r : Segment). worth r.step r.ticks)) (attach_last s e)
      some (n ∷ ns) e =
          elim (cases_eq s.step n.step) [
            | inl f ↦
                let a = ap (sum_of (λ (r : Segment). worth r.step r.ticks)) (attach_same s n ns e f) in
                let b = more n.step s.ticks n.ticks in
                let c = ap (λ (x : ℕ). worth x s.ticks) f in
                omega arith
            | inr f ↦ ap (sum_of (λ (r : Segment). worth r.step r.ticks)) (attach_other s n ns e f)
          ]

  sum_joined : (ss : List Segment) → sum_of (λ (r : Segment). worth r.step r.ticks) (joined ss) ≡ sum_of (λ (r : Segment). worth r.step r.ticks) ss
  unfolding joined sum_of
  sum_joined [] = refl
  sum_joined (s ∷ ss) = let a = sum_attach s (joined ss) in let b = sum_joined ss in omega arith

pub ticks_joined : (ss : List Segment) → ticks_of (joined ss) ≡ ticks_of ss
unfolding ticks_of
ticks_joined ss = sum_joined (λ h n. n) (λ h. refl) (λ h a b. refl) ss

pub energy_joined : (steps : List Step) (ss : List Segment) → energy steps (joined ss) ≡ energy steps ss
unfolding energy
energy_joined steps ss = sum_joined (λ h n. power_at steps h * n) (λ h. mul-zero (power_at steps h)) (λ h a b. mul-add (power_at steps h) a b) ss

-- over the ticks of the first run and n more
pub over_first : (worth : ℕ → ℕ) (s : Segment) (ss : List Segment) (n : ℕ)
    → sum_to (s.ticks + n) (λ m. worth (step_of (s ∷ ss) m)) ≡ worth s.step * s.ticks + sum_to n (λ m. worth (step_of ss m))
over_first worth s ss n =
    let a = sum_to_split s.ticks n (λ m. worth (step_of (s ∷ ss) m)) in
    let b = sum_to_cong s.ticks (λ m. worth (step_of (s ∷ ss) m)) (λ m. worth s.step) (λ m l. ap worth (step_first s ss m l)) in
    let c = sum_to_const s.ticks (worth s.step) in
    let d = sum_to_cong n (λ m. worth (step_of (s ∷ ss) (s.ticks + m))) (λ m. worth (step_of ss m)) (λ m l.
    let e : s.ticks + m - s.ticks ≡ m = omega arith in
    ap worth (step_rest s ss (s.ticks + m) (omega arith) ∙ ap (step_of ss) e)) in
    omega arith

-- tick by tick or run by run
pub over_all : (worth : ℕ → ℕ) (ss : List Segment) → sum_to (ticks_of ss) (λ m. worth (step_of ss m)) ≡ sum_of (λ (r : Segment). worth r.step * r.ticks) ss
unfolding ticks_of sum_of sum_to
over_all worth [] = refl
over_all worth (s ∷ ss) =
    let a = over_first worth s ss (ticks_of ss) in
    let b = over_all worth ss in
    omega arith
