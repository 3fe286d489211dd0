-- The two runs of a stretch, as a program puts them together.
use Rattle.std.proofs.Common.{◌≡◌, ℕ, suc, ◌+◌, ◌-◌, ◌*◌, ◌≤◌, List, [], ◌∷◌, ap, ◌∙◌, ap₂, add-one, arith}
use Rattle.model.specs.Sums.{sum_of}
use Rattle.model.specs.Steps.{Lawful}
use Rattle.model.specs.Plan.{segment, ticks_between, ticks_of, energy}
use Rattle.model.specs.declared.segment.Segment.{Segment}
use Rattle.model.specs.declared.step.Step.{Step}
use Rattle.draw.specs.Gathered.{gathered}
use Rattle.draw.specs.Lanes.{fast_of, runs_of}
use Rattle.draw.specs.declared.lane.Lane.{Lane}
use Rattle.draw.proofs.Adding.{ticks_drawn}
use Rattle.draw.proofs.Bounds.{energy_safe}

runs_two : (l : Lane) (s t n f : ℕ) → n ≡ ticks_between s t → f ≡ fast_of l s t
    → record { step = l.slow; ticks = n - f } ∷ (record { step = l.slow + 1; ticks = f } ∷ []) ≡ runs_of l s t
unfolding runs_of segment
runs_two l s t n f en ef =
    ap (λ (x : ℕ). segment l.slow (n - f) ∷ (segment x f ∷ [])) (add-one l.slow)
    ∙ ap₂ (λ (x y : ℕ). segment l.slow (x - y) ∷ (segment (suc l.slow) y ∷ [])) en ef

-- they take all the ticks
ticks_two : (l : Lane) (s t : ℕ) → fast_of l s t ≤ ticks_between s t → ticks_of (runs_of l s t) ≡ ticks_between s t
unfolding runs_of ticks_of sum_of segment
ticks_two l s t h = omega arith

-- a stretch drawn by its two runs, in ticks, in energy and in segments
pub record Drew (steps : List Step) (l : Lane) (s t : ℕ) (ns xs : List Segment) (before now : ℕ) : Type 0 where
  pub runs : xs ≡ gathered ns (runs_of l s t)
  pub spent : now ≡ before + energy steps (runs_of l s t)
  pub ticks : ticks_of xs ≡ ticks_of ns + ticks_between s t
  pub cheap : now ≤ before + 1000000 * ticks_between s t

pub drew : (steps : List Step) → Lawful steps → (l : Lane) (s t n f : ℕ) (ns xs : List Segment) (before now : ℕ)
    → n ≡ ticks_between s t → f ≡ fast_of l s t → fast_of l s t ≤ ticks_between s t
    → xs ≡ gathered ns (record { step = l.slow; ticks = n - f } ∷ (record { step = l.slow + 1; ticks = f } ∷ []))
    → now ≡ before + energy steps (record { step = l.slow; ticks = n - f } ∷ (record { step = l.slow + 1; ticks = f } ∷ []))
    → Drew steps l s t ns xs before now
drew steps lawful l s t n f ns xs before now en ef h er ee =
    let e = runs_two l s t n f en ef in
    let r : xs ≡ gathered ns (runs_of l s t) = er ∙ ap (gathered ns) e in
    let q : now ≡ before + energy steps (runs_of l s t) = ee ∙ ap (λ (x : List Segment). before + energy steps x) e in
    let a = ticks_two l s t h in
    let b = ticks_drawn xs ns (runs_of l s t) r in
    let c = energy_safe steps lawful (runs_of l s t) in
    record { runs = r; spent = q; ticks = omega arith; cheap = omega arith }
