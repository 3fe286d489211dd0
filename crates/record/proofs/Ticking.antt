-- The step at a tick, when one more segment is put at the end of a plan.
use Rattle.std.proofs.Common.{◌≡◌, ℕ, ◌+◌, ◌-◌, ◌<◌, ◌≤◌, ltb, List, [], ◌∷◌, ◌++◌, sym, refl, ◌∙◌, inl, inr, arith}
use Rattle.model.specs.Sums.{sum_of}
use Rattle.model.specs.Plan.{ticks_of}
use Rattle.model.specs.declared.segment.Segment.{Segment}
use Rattle.std.proofs.lemmas.Bool.Decides.{nat_tests}
use Rattle.std.proofs.lemmas.Bool.{cases_lt, lt-ltb, le-ltb}
use Rattle.std.specs.Bool.{then_some}
use Rattle.record.specs.Checks.{Stands}
use Rattle.record.specs.Reading.{step_at}

pub ticks_push : (ss : List Segment) (s : Segment) → ticks_of (ss ++ (s ∷ [])) ≡ ticks_of ss + s.ticks
unfolding ticks_of sum_of
ticks_push [] s = omega arith
ticks_push (x ∷ ss) s = let h = ticks_push ss s in omega arith

ticks_more : (x : Segment) (ss : List Segment) → ticks_of (x ∷ ss) ≡ x.ticks + ticks_of ss
unfolding ticks_of sum_of
ticks_more x ss = refl

pub ticks_none : ticks_of [] ≡ 0
unfolding ticks_of sum_of
ticks_none = refl

step_here : (x : Segment) (ss : List Segment) (tick : ℕ) → tick < x.ticks → step_at (x ∷ ss) tick ≡ x.step
unfolding step_at
step_here x ss tick l = grind (arith, nat_tests)

step_later : (x : Segment) (ss : List Segment) (tick : ℕ) → x.ticks ≤ tick → step_at (x ∷ ss) tick ≡ step_at ss (tick - x.ticks)
unfolding step_at
step_later x ss tick l = grind (arith, nat_tests)

-- a tick that the plan had before keeps its step
pub step_kept : (ss : List Segment) (s : Segment) (tick : ℕ) → tick < ticks_of ss → step_at (ss ++ (s ∷ [])) tick ≡ step_at ss tick
step_kept [] s tick l = let z = ticks_none in absurd (omega arith)
step_kept (x ∷ ss) s tick l =
    let m = ticks_more x ss in
    elim (cases_lt tick x.ticks) [
      | inl h ↦ step_here x (ss ++ (s ∷ [])) tick h ∙ sym (step_here x ss tick h)
      | inr h ↦
          step_later x (ss ++ (s ∷ [])) tick h
          ∙ step_kept ss s (tick - x.ticks) (omega arith)
          ∙ sym (step_later x ss tick h)
    ]

-- a tick of the last segment has its step
pub step_last : (ss : List Segment) (s : Segment) (tick : ℕ) → ticks_of ss ≤ tick → tick < ticks_of ss + s.ticks → step_at (ss ++ (s ∷ [])) tick ≡ s.step
step_last [] s tick l h = let z = ticks_none in step_here s [] tick (omega arith)
step_last (x ∷ ss) s tick l h =
    let m = ticks_more x ss in
    step_later x (ss ++ (s ∷ [])) tick (omega arith) ∙ step_last ss s (tick - x.ticks) (omega arith) (omega arith)

-- past the end there is none
pub step_past : (ss : List Segment) (tick : ℕ) → ticks_of ss ≤ tick → step_at ss tick ≡ 29
unfolding step_at
step_past [] tick l = refl
step_past (x ∷ ss) tick l =
    let m = ticks_more x ss in
    step_later x ss tick (omega arith) ∙ step_past ss (tick - x.ticks) (omega arith)

-- the step of the last segment that begins no later than a tick: the one at the tick, if the segments reach it
abbrev pub Holds : ℕ → ℕ → List Segment → ℕ → Type 0
Holds steps tick ss x = tick < ticks_of ss → (x ≡ step_at ss tick) × (x < steps)

pub holds_none : (steps tick x : ℕ) → Holds steps tick [] x
holds_none steps tick x l = absurd (omega (arith, ticks_none, l))

pub holds_here : (steps tick : ℕ) (ss : List Segment) (s : Segment) → s.step < steps → ticks_of ss ≤ tick → Holds steps tick (ss ++ (s ∷ [])) s.step
holds_here steps tick ss s b l h = (sym (step_last ss s tick l (omega (arith, ticks_push ss s, h))), b)

pub holds_kept : (steps tick : ℕ) (ss : List Segment) (s : Segment) (x : ℕ) → Holds steps tick ss x → tick < ticks_of ss → Holds steps tick (ss ++ (s ∷ [])) x
holds_kept steps tick ss s x h l m = let k = h l in (k.0 ∙ sym (step_kept ss s tick l), k.1)

pub stands_end : (steps tick n x : ℕ) (ss : List Segment) → n ≡ ticks_of ss → Holds steps tick ss x → Stands steps tick ss (then_some (ltb tick n) x)
stands_end steps tick n x ss e h =
    elim (cases_lt tick n) [
      | inl l ↦ rw (lt-ltb tick n l) (let k = h (omega (arith, e, l)) in (omega (arith, e, l), k.0, k.1))
      | inr l ↦ rw (le-ltb tick n l) (omega (arith, e, l))
    ]
