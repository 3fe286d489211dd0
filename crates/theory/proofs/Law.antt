-- The law of a path as facts, and back as the test of `model`.
use Rattle.std.proofs.Common.{◌≡◌, ℕ, suc, ◌+◌, ◌-◌, ◌*◌, ◌<◌, ◌≤◌, Bool, true, false, not, ◌||◌, List, [], ◌∷◌, refl, subst, arith}
use Rattle.std.proofs.lemmas.Bool.{and_parts, and_from, or_cases, or_left, or_right, or_parts, cases_Bool, both_ways, not_from_true, not_from_false, not-true, ltb-true, lt-ltb, ltb-false, le-ltb, leb-true, le-leb, eqb-true, eq-eqb}
use Rattle.model.specs.Sums.{all_below}
use Rattle.model.specs.Jobs.{total, span, ceiling, floor, arrives, due}
use Rattle.model.specs.Path.{run, rise, height_on, inside, straight, flatter, turns, keeps_from}
use Rattle.model.specs.declared.job.Job.{Job}
use Rattle.model.specs.declared.point.Point.{Point}
use Rattle.model.proofs.Sums.{all_at, all_from}

-- a straight piece: it goes on in time, does not fall, and keeps between the walls at each whole time
pub record Straight (jobs : List Job) (p q : Point) : Type 0 where
  pub onward : p.time < q.time
  pub level : p.height ≤ q.height
  pub above : (t : ℕ) → p.time ≤ t → t ≤ q.time → floor jobs t * run p q ≤ height_on p q t
  pub below : (t : ℕ) → p.time ≤ t → t ≤ q.time → height_on p q t ≤ ceiling jobs t * run p q

-- a lawful turn at q
pub record Turns (jobs : List Job) (p q r : Point) : Type 0 where
  pub rising : rise p q * run q r < rise q r * run p q → (arrives jobs q.time ≡ true) × (q.height ≡ ceiling jobs q.time)
  pub falling : rise q r * run p q < rise p q * run q r → (due jobs q.time ≡ true) × (q.height ≡ floor jobs q.time)

-- the law from p along its corners
abbrev pub Kept : List Job → Point → List Point → Type 0
Kept jobs p [] = (p.time ≡ span jobs) × (p.height ≡ total jobs)
Kept jobs p (q ∷ []) = Straight jobs p q × (q.time ≡ span jobs) × (q.height ≡ total jobs)
Kept jobs p (q ∷ (r ∷ rs)) = Straight jobs p q × Turns jobs p q r × Kept jobs q (r ∷ rs)

straight_true : (jobs : List Job) (p q : Point) → straight jobs p q ≡ true → Straight jobs p q
unfolding straight inside run
straight_true jobs p q e =
    let (a, b) = and_parts _ _ e in
    let (c, d) = and_parts _ _ b in
    let on : p.time < q.time = ltb-true _ _ a in
    record {
      onward = on;
      level = leb-true _ _ c;
      above = λ t l m. leb-true _ _ (and_parts _ _ (at d t l m)).0;
      below = λ t l m. leb-true _ _ (and_parts _ _ (at d t l m)).1;
    }
  where
    at : all_below (suc (run p q)) (λ i. inside jobs p q (p.time + i)) ≡ true → (t : ℕ) → p.time ≤ t → t ≤ q.time → inside jobs p q t ≡ true
    at d t l m =
        let e : p.time + (t - p.time) ≡ t = omega arith in
        let w : t - p.time < suc (q.time - p.time) = omega arith in
        subst (λ (x : ℕ). inside jobs p q x ≡ true) e (all_at (suc (run p q)) (λ i. inside jobs p q (p.time + i)) d (t - p.time) w)

straight_from : (jobs : List Job) (p q : Point) → Straight jobs p q → straight jobs p q ≡ true
unfolding straight inside run
straight_from jobs p q s =
    and_from _ _ (lt-ltb _ _ s.onward)
    (and_from _ _ (le-leb _ _ s.level)
    (all_from (suc (run p q)) (λ i. inside jobs p q (p.time + i)) (λ i l.
    let m : p.time + i ≤ q.time = let o = s.onward in omega arith in
    and_from _ _ (le-leb _ _ (s.above (p.time + i) (omega arith) m)) (le-leb _ _ (s.below (p.time + i) (omega arith) m)))))

implied : (a b : Bool) → (not a || b) ≡ true → a ≡ true → b ≡ true
implied true b e h = e
implied false b e h = absurd (Rattle.std.proofs.lemmas.Bool.false≢true h)

implies : (a b : Bool) → (a ≡ true → b ≡ true) → (not a || b) ≡ true
implies true b h = h refl
implies false b h = refl

turns_true : (jobs : List Job) (p q r : Point) → turns jobs p q r ≡ true → Turns jobs p q r
unfolding turns flatter
turns_true jobs p q r e =
    let (a, b) = and_parts _ _ e in
    record {
      rising = λ l. let (c, d) = and_parts _ _ (implied _ _ a (lt-ltb _ _ l)) in (c, eqb-true _ _ d);
      falling = λ l. let (c, d) = and_parts _ _ (implied _ _ b (lt-ltb _ _ l)) in (c, eqb-true _ _ d);
    }

turns_from : (jobs : List Job) (p q r : Point) → Turns jobs p q r → turns jobs p q r ≡ true
unfolding turns flatter
turns_from jobs p q r s =
    and_from _ _
    (implies _ _ (λ e. let (c, d) = s.rising (ltb-true _ _ e) in and_from _ _ c (eq-eqb _ _ d)))
    (implies _ _ (λ e. let (c, d) = s.falling (ltb-true _ _ e) in and_from _ _ c (eq-eqb _ _ d)))

pub kept_from_keeps : (jobs : List Job) (p : Point) (corners : List Point) → keeps_from jobs p corners ≡ true → Kept jobs p corners
unfolding keeps_from
kept_from_keeps jobs p [] e = let (a, b) = and_parts _ _ e in (eqb-true _ _ a, eqb-true _ _ b)
kept_from_keeps jobs p (q ∷ []) e =
    let (s, f) = and_parts _ _ e in
    let (a, b) = and_parts _ _ f in
    (straight_true jobs p q s, eqb-true _ _ a, eqb-true _ _ b)
kept_from_keeps jobs p (q ∷ (r ∷ rs)) e =
    let (s, f) = and_parts _ _ e in
    let (a, b) = and_parts _ _ f in
    (straight_true jobs p q s, turns_true jobs p q r a, kept_from_keeps jobs q (r ∷ rs) b)

pub keeps_from_kept : (jobs : List Job) (p : Point) (corners : List Point) → Kept jobs p corners → keeps_from jobs p corners ≡ true
unfolding keeps_from
keeps_from_kept jobs p [] k = and_from _ _ (eq-eqb _ _ k.0) (eq-eqb _ _ k.1)
keeps_from_kept jobs p (q ∷ []) k = and_from _ _ (straight_from jobs p q k.0) (and_from _ _ (eq-eqb _ _ k.1) (eq-eqb _ _ k.2))
keeps_from_kept jobs p (q ∷ (r ∷ rs)) k =
    and_from _ _ (straight_from jobs p q k.0) (and_from _ _ (turns_from jobs p q r k.1) (keeps_from_kept jobs q (r ∷ rs) k.2))
