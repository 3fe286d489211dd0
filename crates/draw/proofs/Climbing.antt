-- The slow step found by climbing: the first step after which the next is faster than the slope.
use Rattle.std.proofs.Common.{◌≡◌, ℕ, suc, ◌-◌, ◌*◌, ◌<◌, ◌≤◌, List, length, subst₂, inl, inr, Option, None, Some, arith}
use Rattle.std.proofs.lemmas.Bool.{cases_order, leb-true, leb-false}
use Rattle.std.specs.Option.{MatchOption, unwrap_or}
use Rattle.model.specs.Steps.{speed_at, Lawful}
use Rattle.model.specs.Path.{run, rise}
use Rattle.model.specs.Plan.{slow_step}
use Rattle.model.specs.declared.point.Point.{Point}
use Rattle.model.specs.declared.step.Step.{Step}
use Rattle.theory.proofs.Slow.{splits}

slow_from : (steps : List Step) → Lawful steps → (p q : Point) (n : ℕ) → n ≤ length steps - 2
    → ((k : ℕ) → k < n → speed_at steps (suc k) * run p q ≤ rise p q) → (n < length steps - 2 → rise p q < speed_at steps (suc n) * run p q)
    → n ≡ slow_step steps (record { from = p; to = q })
slow_from steps lawful p q n b low high =
    let (most, pass, fail) = splits steps lawful (record { from = p; to = q }) in
    elim (cases_order n (slow_step steps (record { from = p; to = q }))) [
      | inl e ↦ e
      | inr (inl l) ↦ let a = leb-true _ _ (pass n l) in let c = high (omega arith) in absurd (omega arith)
      | inr (inr l) ↦
          let a = leb-false _ _ (fail (slow_step steps (record { from = p; to = q })) (omega arith) (omega arith)) in
          let c = low (slow_step steps (record { from = p; to = q })) l in
          absurd (omega arith)
    ]

pub slow_is : (steps : List Step) → Lawful steps → (p q : Point) (n r s : ℕ) → r ≡ q.time - p.time → s ≡ q.height - p.height → n ≤ length steps - 2
    → ((k : ℕ) → k < n → speed_at steps (suc k) * r ≤ s) → (n < length steps - 2 → s < speed_at steps (suc n) * r)
    → n ≡ slow_step steps (record { from = p; to = q })
unfolding run rise
slow_is steps lawful p q n r s er es b low high =
    slow_from steps lawful p q n b
    (λ k l. subst₂ (λ (x y : ℕ). speed_at steps (suc k) * x ≤ y) er es (low k l))
    (λ l. subst₂ (λ (x y : ℕ). y < speed_at steps (suc n) * x) er es (high l))

-- the first step whose next is faster, where there is one
abbrev pub First : List Step → ℕ → ℕ → ℕ → Option ℕ → Type 0
First steps r s most o = MatchOption o
    ((k : ℕ) → 0 ≤ k → k < most → speed_at steps (suc k) * r ≤ s)
    (λ i. (0 ≤ i) × (i < most) × (s < speed_at steps (suc i) * r) × ((k : ℕ) → 0 ≤ k → k < i → speed_at steps (suc k) * r ≤ s))

pub slow_found : (steps : List Step) → Lawful steps → (p q : Point) (o : Option ℕ) (r s most : ℕ) → r ≡ q.time - p.time → s ≡ q.height - p.height → most ≡ length steps - 2
    → First steps r s most o → unwrap_or o most ≡ slow_step steps (record { from = p; to = q })
slow_found steps lawful p q None r s most er es em low = slow_is steps lawful p q most r s er es (omega arith) (λ k l. low k (omega arith) l) (λ l. absurd (omega arith))
slow_found steps lawful p q (Some i) r s most er es em (z, l, high, low) = slow_is steps lawful p q i r s er es (omega arith) (λ k m. low k (omega arith) m) (λ m. high)
