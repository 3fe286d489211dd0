-- The ticks that an account pays for, counted by division.
-- A loop carries the jobs and the segments that are left, and the next grain, counted from the first grain of the job at hand.
-- While that grain is one of the job's own, its account pays for each tick that begins before the job's end: the grains left / speed, rounded up, but no more than the segment has.
-- Past the job's end the loop goes on with the next job. What it adds up is what the account pays tick by tick.
use Rattle.std.proofs.Common.{◌≡◌, ℕ, zero, suc, ◌+◌, ◌-◌, ◌*◌, ◌/◌, ◌<◌, ◌≤◌, min, Bool, true, false, cond, eqb, ltb, List, [], ◌∷◌, sym, refl, ap, ◌∙◌, inl, inr, mul-le-mul_left, mul-zero, mul-suc, mul-add, arith}
use native.Mathlib.Nat.{mul-div-le, lt-mul-div-succ}
use Rattle.std.proofs.lemmas.Bool.{cond-true, cond-false, cond_both, cases_lt, lt-ltb, le-ltb, ne_eqb}
use Rattle.model.specs.Steps.{unit, speed_at, power_at}
use Rattle.model.specs.Plan.{segment}
use Rattle.model.specs.Charges.{house, owner, payer, pays, charge_from}
use Rattle.model.specs.declared.job.Job.{Job}
use Rattle.model.specs.declared.segment.Segment.{Segment}
use Rattle.model.specs.declared.step.Step.{Step}

-- how many ticks of speed v begin within the next x grains
abbrev pub ticks_within : ℕ → ℕ → ℕ
ticks_within x v = (x + (v - 1)) / v

-- together they do the x grains, and the last begins before the end of them
pub within_over : (x v : ℕ) → 0 < v → x ≤ v * ticks_within x v
within_over x v l =
    let a = lt-mul-div-succ (x + (v - 1)) l in
    let b = mul-add v ((x + (v - 1)) / v) 1 in
    omega arith

pub within_under : (x v : ℕ) → 0 < v → v * ticks_within x v < x + v
within_under x v l = let a = mul-div-le (x + (v - 1)) v in omega arith

-- one tick more, paid or not
one_more : (b : Bool) (w m : ℕ) → cond b (w * suc m) 0 ≡ cond b w 0 + cond b (w * m) 0
one_more true w m = let a = mul-suc w m in omega arith
one_more false w m = refl

no_more : (b : Bool) (w : ℕ) → cond b (w * 0) 0 ≡ 0
no_more b w = cond_both b (w * 0) 0 (λ x. x ≡ 0) (λ e. mul-zero w) (λ e. refl)

-- where one account pays for every tick
one_payer : (jobs : List Job) (x a v w : ℕ) → ((g : ℕ) → payer jobs v g ≡ x) → (g n : ℕ) → pays jobs a v w g n ≡ cond (eqb x a) (w * n) 0
unfolding pays
one_payer jobs x a v w all g zero = sym (no_more (eqb x a) w)
one_payer jobs x a v w all g (suc n) =
    let e = ap (λ (y : ℕ). cond (eqb y a) w 0) (all g) in
    let r = one_payer jobs x a v w all (g + v) n in
    let o = one_more (eqb x a) w n in
    omega arith

-- at speed 0 the house pays, and past the last job too
pub pays_idle : (jobs : List Job) (a w g n : ℕ) → pays jobs a 0 w g n ≡ cond (eqb 0 a) (w * n) 0
unfolding payer
pays_idle jobs a w g n = one_payer jobs 0 a 0 w (λ x. refl) g n

pub pays_past : (a v w g n : ℕ) → pays [] a v w g n ≡ cond (eqb 0 a) (w * n) 0
unfolding payer owner
pays_past a v w g n = one_payer [] 0 a v w (λ x. cond_both (eqb v 0) 0 0 (λ y. y ≡ 0) (λ e. refl) (λ e. refl)) g n

pub pays_none : (jobs : List Job) (a v w g : ℕ) → pays jobs a v w g 0 ≡ 0
unfolding pays
pays_none jobs a v w g = refl

module _ (j : Job) (js : List Job) where
  -- the owner of a grain, and who pays for a tick, before the job's end and past it
  payer_own : (v g : ℕ) → 0 < v → g < j.work * unit → payer (j ∷ js) v g ≡ j.account
  unfolding payer owner
  payer_own v g v0 l = cond-false (eqb v 0) _ _ (ne_eqb v 0 (λ e. omega arith)) ∙ cond-true (ltb g (j.work * unit)) _ _ (lt-ltb _ _ l)

  payer_skip : (v g : ℕ) → j.work * unit ≤ g → payer (j ∷ js) v g ≡ payer js v (g - j.work * unit)
  unfolding payer owner
  payer_skip v g l = ap (λ (x : ℕ). cond (eqb v 0) house x) (cond-false (ltb g (j.work * unit)) _ _ (le-ltb _ _ l))

  -- past the job's end it is as if it were not there
  pub pays_skip : (a v w g n : ℕ) → j.work * unit ≤ g → pays (j ∷ js) a v w g n ≡ pays js a v w (g - j.work * unit) n
  unfolding pays
  pays_skip a v w g zero l = refl
  pays_skip a v w g (suc n) l =
      let e = ap (λ (x : ℕ). cond (eqb x a) w 0) (payer_skip v g l) in
      let r = pays_skip a v w (g + v) n (omega arith) in
      let s : g + v - j.work * unit ≡ g - j.work * unit + v = omega arith in
      let t = ap (λ (x : ℕ). pays js a v w x n) s in
      omega arith

  -- m ticks that begin before the job's end
  own_ticks : (a v w m g n : ℕ) → 0 < v → m ≤ n → g + v * m < j.work * unit + v
      → pays (j ∷ js) a v w g n ≡ cond (eqb j.account a) (w * m) 0 + pays (j ∷ js) a v w (g + v * m) (n - m)
  unfolding pays
  own_ticks a v w zero g n v0 l k =
      let z = no_more (eqb j.account a) w in
      let e : g ≡ g + v * 0 = let y = mul-zero v in omega arith in
      let f : n ≡ n - 0 = omega arith in
      let p = ap (λ (x : ℕ). pays (j ∷ js) a v w x n) e in
      let q = ap (λ (x : ℕ). pays (j ∷ js) a v w (g + v * 0) x) f in
      omega arith
  own_ticks a v w (suc m) g zero v0 l k = absurd (omega arith)
  own_ticks a v w (suc m) g (suc n) v0 l k =
      let y = mul-suc v m in
      let e = ap (λ (x : ℕ). cond (eqb x a) w 0) (payer_own v g v0 (omega arith)) in
      let r = own_ticks a v w m (g + v) n v0 (omega arith) (omega arith) in
      let o = one_more (eqb j.account a) w m in
      let s : g + v + v * m ≡ g + v * suc m = omega arith in
      let p = ap (λ (x : ℕ). pays (j ∷ js) a v w x (n - m)) s in
      let f : n - m ≡ suc n - suc m = omega arith in
      let q = ap (λ (x : ℕ). pays (j ∷ js) a v w (g + v * suc m) x) f in
      omega arith

  -- of n ticks from grain g on, the job's account pays for those that begin before the job's end
  pub pays_own : (a v w g n : ℕ) → 0 < v → g < j.work * unit
      → let m = min n (ticks_within (j.work * unit - g) v) in
      pays (j ∷ js) a v w g n ≡ cond (eqb j.account a) (w * m) 0 + pays (j ∷ js) a v w (g + v * m) (n - m)
  pays_own a v w g n v0 l =
      let t : ℕ = ticks_within (j.work * unit - g) v in
      let u = within_under (j.work * unit - g) v v0 in
      let k = mul-le-mul_left v (let h : min n t ≤ t = omega arith in h) in
      own_ticks a v w (min n t) g n v0 (omega arith) (omega arith)

  -- if any are left, they begin past the job's end
  pub own_over : (v g n : ℕ) → 0 < v → let m = min n (ticks_within (j.work * unit - g) v) in m < n → j.work * unit ≤ g + v * m
  own_over v g n v0 k =
      let t : ℕ = ticks_within (j.work * unit - g) v in
      let e : min n t ≡ t = omega arith in
      let u = within_over (j.work * unit - g) v v0 in
      let f = ap (λ (x : ℕ). v * x) e in
      omega arith

  -- so the others pay for those
  pub pays_split : (a v w g n : ℕ) → 0 < v → g < j.work * unit
      → let m = min n (ticks_within (j.work * unit - g) v) in
      pays (j ∷ js) a v w g n ≡ cond (eqb j.account a) (w * m) 0 + pays js a v w (g + v * m - j.work * unit) (n - m)
  pays_split a v w g n v0 l =
      let m : ℕ = min n (ticks_within (j.work * unit - g) v) in
      let own = pays_own a v w g n v0 l in
      elim (cases_lt m n) [
        | inl k ↦ let s = pays_skip a v w (g + v * m) (n - m) (own_over v g n v0 k) in omega arith
        | inr k ↦
            let e : n - m ≡ 0 = omega arith in
            let p = ap (λ (x : ℕ). pays (j ∷ js) a v w (g + v * m) x) e ∙ pays_none (j ∷ js) a v w (g + v * m) in
            let q = ap (λ (x : ℕ). pays js a v w (g + v * m - j.work * unit) x) e ∙ pays_none js a v w (g + v * m - j.work * unit) in
            omega arith
      ]

-- the moves of the loop over segments and jobs, for an account a and the next grain g
module _ (steps : List Step) (a : ℕ) where
  pub charge_end : (jobs : List Job) (g : ℕ) → charge_from steps jobs a g [] ≡ 0
  unfolding charge_from
  charge_end jobs g = refl

  -- a segment without ticks is left
  pub charge_next : (jobs : List Job) (g h : ℕ) (ss : List Segment) → charge_from steps jobs a g (segment h 0 ∷ ss) ≡ charge_from steps jobs a g ss
  unfolding charge_from segment
  charge_next jobs g h ss =
      let z = pays_none jobs a (speed_at steps h) (power_at steps h) g in
      let e : g + speed_at steps h * 0 ≡ g = let y = mul-zero (speed_at steps h) in omega arith in
      let r = ap (λ (x : ℕ). charge_from steps jobs a x ss) e in
      omega arith

  -- an idle segment goes to the house
  pub charge_idle : (jobs : List Job) (g h n : ℕ) (ss : List Segment) → speed_at steps h ≡ 0
      → charge_from steps jobs a g (segment h n ∷ ss) ≡ cond (eqb 0 a) (power_at steps h * n) 0 + charge_from steps jobs a g ss
  unfolding charge_from segment
  charge_idle jobs g h n ss z =
      let p = ap (λ (x : ℕ). pays jobs a x (power_at steps h) g n) z ∙ pays_idle jobs a (power_at steps h) g n in
      let e : g + speed_at steps h * n ≡ g = let y = ap (λ (x : ℕ). x * n) z in omega arith in
      let r = ap (λ (x : ℕ). charge_from steps jobs a x ss) e in
      omega arith

  -- the job at hand takes its ticks of the segment
  pub charge_own : (j : Job) (js : List Job) (g h n : ℕ) (ss : List Segment) → 0 < speed_at steps h → g < j.work * unit
      → let m = min n (ticks_within (j.work * unit - g) (speed_at steps h)) in
      charge_from steps (j ∷ js) a g (segment h n ∷ ss)
      ≡ cond (eqb j.account a) (power_at steps h * m) 0 + charge_from steps (j ∷ js) a (g + speed_at steps h * m) (segment h (n - m) ∷ ss)
  unfolding charge_from segment
  charge_own j js g h n ss v0 l =
      let v : ℕ = speed_at steps h in
      let m : ℕ = min n (ticks_within (j.work * unit - g) v) in
      let p = pays_own j js a v (power_at steps h) g n v0 l in
      let s : m + (n - m) ≡ n = omega arith in
      let y = mul-add v m (n - m) in
      let t = ap (λ (x : ℕ). v * x) s in
      let e : g + v * n ≡ g + v * m + v * (n - m) = omega arith in
      let r = ap (λ (x : ℕ). charge_from steps (j ∷ js) a x ss) e in
      omega arith

  -- a job is left when its grains are done
  pub charge_skip : (j : Job) (js : List Job) (g : ℕ) (ss : List Segment) → j.work * unit ≤ g
      → charge_from steps (j ∷ js) a g ss ≡ charge_from steps js a (g - j.work * unit) ss
  unfolding charge_from
  charge_skip j js g [] l = refl
  charge_skip j js g (s ∷ ss) l =
      let v : ℕ = speed_at steps s.step in
      let p = pays_skip j js a v (power_at steps s.step) g s.ticks l in
      let r = charge_skip j js (g + v * s.ticks) ss (omega arith) in
      let e : g + v * s.ticks - j.work * unit ≡ g - j.work * unit + v * s.ticks = omega arith in
      let q = ap (λ (x : ℕ). charge_from steps js a x ss) e in
      omega arith
