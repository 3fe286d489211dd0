-- The charges add up: each tick is paid whole by one account, the house or the owner of its first grain, so over all accounts the charges are the energy.
use Rattle.std.proofs.Common.{◌≡◌, ℕ, zero, suc, ◌+◌, ◌-◌, ◌*◌, ◌<◌, ◌≤◌, cond, eqb, ltb, List, [], ◌∷◌, length, sym, refl, ◌∙◌, inl, inr, mul-zero, mul-suc, arith}
use Rattle.std.proofs.lemmas.Bool.{cond-true, cond-false, cond_both, cases_lt, eq-eqb, ne_eqb}
use Rattle.model.specs.Sums.{sum_to, sum_of}
use Rattle.model.specs.Steps.{unit, speed_at, power_at}
use Rattle.model.specs.Jobs.{job_at}
use Rattle.model.specs.Plan.{energy}
use Rattle.model.specs.Charges.{house, owner, payer, pays, charge_from, charge}
use Rattle.model.specs.declared.job.Job.{Job}
use Rattle.model.specs.declared.segment.Segment.{Segment}
use Rattle.model.specs.declared.step.Step.{Step}
use Rattle.model.proofs.Sums.{sum_to_add, sum_to_none}

-- what one of n accounts pays, the n accounts pay together
one_pays : (n x w : ℕ) → x < n → sum_to n (λ a. cond (eqb x a) w 0) ≡ w
unfolding sum_to
one_pays zero x w l = absurd (omega arith)
one_pays (suc n) x w l =
    elim (cases_lt x n) [
      | inl k ↦
          let a = one_pays n x w k in
          let c = cond-false (eqb x n) w 0 (ne_eqb x n (λ e. omega arith)) in
          omega arith
      | inr k ↦
          let a = sum_to_none n (λ y. cond (eqb x y) w 0) (λ y m. cond-false (eqb x y) w 0 (ne_eqb x y (λ e. omega arith))) in
          let c = cond-true (eqb x n) w 0 (eq-eqb x n (omega arith)) in
          omega arith
    ]

-- where the house and the account of each job are among n accounts, so is who pays
module _ (n : ℕ) (open-house : house < n) where
  owner_known : (jobs : List Job) → ((i : ℕ) → i < length jobs → (job_at jobs i).account < n) → (g : ℕ) → owner jobs g < n
  unfolding owner job_at
  owner_known [] known g = open-house
  owner_known (j ∷ js) known g =
      cond_both (ltb g (j.work * unit)) j.account (owner js (g - j.work * unit)) (λ x. x < n)
      (λ e. known 0 (omega arith))
      (λ e. owner_known js (λ i l. known (suc i) (omega arith)) (g - j.work * unit))

  module _ (jobs : List Job) (known : (i : ℕ) → i < length jobs → (job_at jobs i).account < n) where
    payer_known : (v g : ℕ) → payer jobs v g < n
    unfolding payer
    payer_known v g = cond_both (eqb v 0) house (owner jobs g) (λ x. x < n) (λ e. open-house) (λ e. owner_known jobs known g)

    -- all accounts together pay for each tick
    all_pay : (v w g ticks : ℕ) → sum_to n (λ a. pays jobs a v w g ticks) ≡ w * ticks
    unfolding pays
    all_pay v w g zero = sum_to_none n (λ a. 0) (λ a l. refl) ∙ sym (mul-zero w)
    all_pay v w g (suc ticks) =
        let s = sum_to_add n (λ a. cond (eqb (payer jobs v g) a) w 0) (λ a. pays jobs a v w (g + v) ticks) in
        let o = one_pays n (payer jobs v g) w (payer_known v g) in
        let r = all_pay v w (g + v) ticks in
        let m = mul-suc w ticks in
        omega arith

    all_charged : (steps : List Step) (g : ℕ) (ss : List Segment) → sum_to n (λ a. charge_from steps jobs a g ss) ≡ energy steps ss
    unfolding charge_from energy sum_of
    all_charged steps g [] = sum_to_none n (λ a. 0) (λ a l. refl)
    all_charged steps g (s ∷ ss) =
        let v : ℕ = speed_at steps s.step in
        let w : ℕ = power_at steps s.step in
        let a = sum_to_add n (λ x. pays jobs x v w g s.ticks) (λ x. charge_from steps jobs x (g + v * s.ticks) ss) in
        let b = all_pay v w g s.ticks in
        let c = all_charged steps (g + v * s.ticks) ss in
        omega arith

-- the charges of accounts 0 to 64 add up to the energy
pub charges_add_up : (steps : List Step) (jobs : List Job) (segments : List Segment) → ((i : ℕ) → i < length jobs → (job_at jobs i).account ≤ 64)
    → sum_to 65 (charge steps jobs segments) ≡ energy steps segments
unfolding charge
charges_add_up steps jobs segments known = all_charged 65 (omega arith) jobs (λ i l. let k = known i l in omega arith) steps 0 segments
