-- The moves of the settling of one segment. What an account has paid, with what it still owes from the cursor on, stays the same:
-- the house takes the ticks that are left, or a job is left behind, or the job at hand takes its ticks.
-- As what is owed stays within its limit, so does each row that is raised.
use Rattle.std.proofs.Common.{◌≡◌, ℕ, ◌+◌, ◌-◌, ◌*◌, ◌/◌, ◌<◌, ◌≤◌, min, true, cond, eqb, ◌⊎◌, List, [], ◌∷◌, length, get_or, drop, set, sym, refl, ap, ◌∙◌, inl, inr, mul-le-mul_right, mul-le-mul_left, arith}
use Rattle.std.proofs.lemmas.List.{at_drop_more, at_drop_all, get_or_past}
use Rattle.std.proofs.lemmas.Bool.{cases_lt, cond-true, eq-eqb}
use Rattle.model.specs.Steps.{speed_at, power_at, no_step, Lawful}
use Rattle.model.specs.Jobs.{no_job, job_at}
use Rattle.model.specs.Plan.{segment}
use Rattle.model.specs.Charges.{charge_from}
use Rattle.model.specs.declared.job.Job.{Job}
use Rattle.model.specs.declared.segment.Segment.{Segment}
use Rattle.model.specs.declared.step.Step.{Step}
use Rattle.queue.specs.Queues.{standing}
use Rattle.queue.proofs.Order.{standing_fit, limits}
use Rattle.theory.proofs.Counting.{ticks_within, within_under, pays_past, charge_next, charge_idle, charge_own, charge_skip}
use Rattle.charges.specs.declared.cursor.Cursor.{Cursor}
use Rattle.charges.specs.Owing.{owing}
use Rattle.charges.proofs.Raised.{raised}

-- past the last job no grain counts
grain_past : (steps : List Step) (a g k : ℕ) (ss : List Segment) → charge_from steps [] a g ss ≡ charge_from steps [] a k ss
unfolding charge_from
grain_past steps a g k [] = refl
grain_past steps a g k (s ∷ ss) =
    let v : ℕ = speed_at steps s.step in
    let w : ℕ = power_at steps s.step in
    let p = pays_past a v w g s.ticks in
    let q = pays_past a v w k s.ticks in
    let r = grain_past steps a (g + v * s.ticks) (k + v * s.ticks) ss in
    omega arith

-- past the last job a segment goes to the house
charge_past : (steps : List Step) (a g h n : ℕ) (ss : List Segment)
    → charge_from steps [] a g (segment h n ∷ ss) ≡ cond (eqb 0 a) (power_at steps h * n) 0 + charge_from steps [] a g ss
unfolding charge_from segment
charge_past steps a g h n ss =
    let p = pays_past a (speed_at steps h) (power_at steps h) g n in
    let r = grain_past steps a (g + speed_at steps h * n) g ss in
    omega arith

-- the figures of a step, lacking or not, are small
pub speed_small : (steps : List Step) → Lawful steps → (h v : ℕ) → v ≡ speed_at steps h → v ≤ 4000
unfolding speed_at
speed_small steps w h v e =
    elim (cases_lt h (length steps)) [
      | inl l ↦ let f = w.fast h l in omega arith
      | inr l ↦ let f = ap (λ (s : Step). s.speed) (get_or_past steps h no_step l) in omega arith
    ]

power_small : (steps : List Step) → Lawful steps → (h w : ℕ) → w ≡ power_at steps h → w ≤ 1000000
unfolding power_at
power_small steps lawful h w e =
    elim (cases_lt h (length steps)) [
      | inl l ↦ let f = lawful.dear h l in omega arith
      | inr l ↦ let f = ap (λ (s : Step). s.power) (get_or_past steps h no_step l) in omega arith
    ]

-- so is the energy of a run of ticks, and so are the grains of a standing job
pub energy_small : (steps : List Step) → Lawful steps → (h w n : ℕ) → w ≡ power_at steps h → n ≤ 1008000000 → w * n ≤ 1008000000000000
energy_small steps lawful h w n e k =
    let a = mul-le-mul_right n (power_small steps lawful h w e) in
    let b = mul-le-mul_left 1000000 k in
    omega arith

pub grains_small : (jobs : List Job) → standing jobs ≡ true → (i : ℕ) → i < length jobs → (job_at jobs i).work * 5040 ≤ 5040000000
grains_small jobs e i l = let k = (limits (job_at jobs i) (standing_fit jobs e i l)).small in omega arith

-- the account of a standing job has a row
pub account_known : (jobs : List Job) → standing jobs ≡ true → (i : ℕ) → i < length jobs → (job_at jobs i).account < 65
account_known jobs e i l = let k = (limits (job_at jobs i) (standing_fit jobs e i l)).known in omega arith

-- a job's ticks overrun its grains by less than a tick, so the cursor stays near the job
ticks_under : (x v n : ℕ) → 0 < v → v * min n (ticks_within x v) < x + v
ticks_under x v n v0 =
    let t : ℕ = ticks_within x v in
    let u = within_under x v v0 in
    let k = mul-le-mul_left v (let h : min n t ≤ t = omega arith in h) in
    omega arith

near_by : (x g v n m : ℕ) → 0 < v → v ≤ 4000 → x ≤ 5040000000 → g < x → m ≡ min n ((x - g + (v - 1)) / v) → g + v * m ≤ 5040004000
near_by x g v n m v0 vl xl l e =
    let u = ticks_under (x - g) v n v0 in
    let f = ap (λ (y : ℕ). v * y) e in
    omega arith

pub stays_near : (steps : List Step) → Lawful steps → (jobs : List Job) → standing jobs ≡ true → (h v : ℕ) → v ≡ speed_at steps h → 0 < v
    → (at : Cursor) (n m : ℕ) → at.job < length jobs → at.grain < (job_at jobs at.job).work * 5040
    → m ≡ min n (((job_at jobs at.job).work * 5040 - at.grain + (v - 1)) / v) → at.grain + v * m ≤ 5040004000
stays_near steps lawful jobs stands h v e v0 at n m l k f =
    near_by ((job_at jobs at.job).work * 5040) at.grain v n m v0 (speed_small steps lawful h v e) (grains_small jobs stands at.job l) k f

-- rows of which one was raised owe as much more
owing_raised : (steps : List Step) (jobs : List Job) (rows after : List ℕ) (x by : ℕ) (at : Cursor) (ss : List Segment) (a : ℕ) → x < length rows
    → after ≡ set rows x (get_or rows x 0 + by) → owing steps jobs after at ss a ≡ cond (eqb x a) by 0 + owing steps jobs rows at ss a
unfolding owing
owing_raised steps jobs rows after x by at ss a l e = let r = raised rows after x by l e a in omega arith

-- a row has room for what its account owes
room_for : (steps : List Step) (jobs : List Job) (rows : List ℕ) (at to : Cursor) (ss ts : List Segment) (x by m : ℕ)
    → owing steps jobs rows at ss x ≡ cond (eqb x x) by 0 + owing steps jobs rows to ts x → owing steps jobs rows at ss x ≤ m
    → get_or rows x 0 + by ≤ m
unfolding owing
room_for steps jobs rows at to ss ts x by m e l = let c = cond-true (eqb x x) by 0 (eq-eqb x x refl) in omega arith

-- a segment is a run of its ticks at its step, and one without ticks is over
pub owing_whole : (steps : List Step) (jobs : List Job) (rows : List ℕ) (at : Cursor) (s : Segment) (ss : List Segment) (a : ℕ)
    → owing steps jobs rows at (segment s.step s.ticks ∷ ss) a ≡ owing steps jobs rows at (s ∷ ss) a
unfolding segment
owing_whole steps jobs rows at s ss a = refl

pub owing_none : (steps : List Step) (jobs : List Job) (rows : List ℕ) (at : Cursor) (h n : ℕ) (ss : List Segment) (a : ℕ) → n ≡ 0
    → owing steps jobs rows at ss a ≡ owing steps jobs rows at (segment h n ∷ ss) a
unfolding owing
owing_none steps jobs rows at h n ss a z =
    let e = charge_next steps a (drop at.job jobs) at.grain h ss in
    let f = ap (λ (x : ℕ). charge_from steps (drop at.job jobs) a at.grain (segment h x ∷ ss)) z in
    omega arith

-- the job at the cursor is left behind
pub skip : (steps : List Step) (jobs : List Job) (rows : List ℕ) (at : Cursor) (ss : List Segment) (a : ℕ) → at.job < length jobs → (job_at jobs at.job).work * 5040 ≤ at.grain
    → owing steps jobs rows (record { job = at.job + 1; grain = at.grain - (job_at jobs at.job).work * 5040 }) ss a ≡ owing steps jobs rows at ss a
unfolding owing job_at
skip steps jobs rows at ss a l k =
    let p = at_drop_more (λ (js : List Job). charge_from steps js a at.grain ss) jobs at.job no_job l in
    let e = charge_skip steps a (get_or jobs at.job no_job) (drop (at.job + 1) jobs) at.grain ss k in
    omega arith

module _ (steps : List Step) (jobs : List Job) (rows : List ℕ) (h v w : ℕ) (ev : v ≡ speed_at steps h) (ew : w ≡ power_at steps h) (at : Cursor) (n : ℕ) where
  -- at speed 0 or past the last job, the house owes for all ticks that are left
  house : (v ≡ 0) ⊎ ((v ≡ 0 → ⊥) × (length jobs ≤ at.job)) → (ss : List Segment) (a : ℕ)
      → owing steps jobs rows at (segment h n ∷ ss) a ≡ cond (eqb 0 a) (w * n) 0 + owing steps jobs rows at ss a
  unfolding owing
  house (inl z) ss a =
      let e = charge_idle steps a (drop at.job jobs) at.grain h n ss (sym ev ∙ z) in
      let f = ap (λ (x : ℕ). cond (eqb 0 a) (x * n) 0) ew in
      omega arith
  house (inr (z, l)) ss a =
      let e = charge_past steps a at.grain h n ss in
      let p = at_drop_all (λ (js : List Job). charge_from steps js a at.grain (segment h n ∷ ss)) jobs at.job l in
      let q = at_drop_all (λ (js : List Job). charge_from steps js a at.grain ss) jobs at.job l in
      let f = ap (λ (x : ℕ). cond (eqb 0 a) (x * n) 0) ew in
      omega arith

  pub house_room : (v ≡ 0) ⊎ ((v ≡ 0 → ⊥) × (length jobs ≤ at.job)) → (m : ℕ) → owing steps jobs rows at (segment h n ∷ []) 0 ≤ m → get_or rows 0 0 + w * n ≤ m
  house_room z m l = room_for steps jobs rows at at (segment h n ∷ []) [] 0 (w * n) m (house z [] 0) l

  pub house_pays : (v ≡ 0) ⊎ ((v ≡ 0 → ⊥) × (length jobs ≤ at.job)) → (after : List ℕ) → 0 < length rows → after ≡ set rows 0 (get_or rows 0 0 + w * n) → (ss : List Segment) (a : ℕ)
      → owing steps jobs after at ss a ≡ owing steps jobs rows at (segment h n ∷ ss) a
  house_pays z after l e ss a = owing_raised steps jobs rows after 0 (w * n) at ss a l e ∙ sym (house z ss a)

  module _ (m : ℕ) (here : at.job < length jobs) (moves : 0 < v) (inside : at.grain < (job_at jobs at.job).work * 5040)
      (em : m ≡ min n (((job_at jobs at.job).work * 5040 - at.grain + (v - 1)) / v)) where
    -- the cursor after the ticks that the job at hand takes
    abbrev on : Cursor
    on = record { job = at.job; grain = at.grain + v * m }

    -- the job's account owes for those ticks, and for the rest all owe from the new cursor on
    own : (ss : List Segment) (a : ℕ)
        → owing steps jobs rows at (segment h n ∷ ss) a ≡ cond (eqb (job_at jobs at.job).account a) (w * m) 0 + owing steps jobs rows on (segment h (n - m) ∷ ss) a
    unfolding owing job_at
    own ss a =
        let j = get_or jobs at.job no_job in
        let js = drop (at.job + 1) jobs in
        let g = at.grain in
        let p = at_drop_more (λ (xs : List Job). charge_from steps xs a g (segment h n ∷ ss)) jobs at.job no_job here in
        let z : 0 < speed_at steps h = omega arith in
        let o = charge_own steps a j js g h n ss z inside in
        let q = at_drop_more (λ (xs : List Job). charge_from steps xs a (g + v * m) (segment h (n - m) ∷ ss)) jobs at.job no_job here in
        let f = em ∙ ap (λ (x : ℕ). min n ((j.work * 5040 - g + (x - 1)) / x)) ev in
        let r = ap (λ (x : ℕ). cond (eqb j.account a) (power_at steps h * x) 0 + charge_from steps (j ∷ js) a (g + speed_at steps h * x) (segment h (n - x) ∷ ss)) f in
        let u = ap (λ (x : ℕ). cond (eqb j.account a) (x * m) 0) ew in
        let y = ap (λ (x : ℕ). charge_from steps (j ∷ js) a (g + x * m) (segment h (n - m) ∷ ss)) ev in
        omega arith

    pub own_room : (k : ℕ) → owing steps jobs rows at (segment h n ∷ []) (job_at jobs at.job).account ≤ k → get_or rows (job_at jobs at.job).account 0 + w * m ≤ k
    own_room k l =
        let x = (job_at jobs at.job).account in
        room_for steps jobs rows at on (segment h n ∷ []) (segment h (n - m) ∷ []) x (w * m) k (own [] x) l

    pub own_pays : (after : List ℕ) → (job_at jobs at.job).account < length rows
        → after ≡ set rows (job_at jobs at.job).account (get_or rows (job_at jobs at.job).account 0 + w * m) → (ss : List Segment) (a : ℕ)
        → owing steps jobs after on (segment h (n - m) ∷ ss) a ≡ owing steps jobs rows at (segment h n ∷ ss) a
    own_pays after l e ss a =
        owing_raised steps jobs rows after (job_at jobs at.job).account (w * m) on (segment h (n - m) ∷ ss) a l e ∙ sym (own ss a)
