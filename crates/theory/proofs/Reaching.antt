-- The sweep gets to a time where a wall may put a point: the state stays sound, and the corners found keep the law.
-- Either the new point leaves the first point of its own chain in place, and then nothing else changes,
-- or it is alone in its chain, inward of all older points of the wall, and passes along the other chain.
use Rattle.std.proofs.Common.{◌≡◌, ℕ, ◌<◌, ◌≤◌, Bool, true, false, cond, not, List, [], ◌∷◌, ◌++◌, sym, refl, ap, ◌∙◌, subst, inl, inr, arith}
use Rattle.std.proofs.lemmas.Bool.{cases_lt, cases_Bool, cond-true, cond-false, both_ways}
use Rattle.model.specs.Jobs.{span}
use Rattle.model.specs.declared.job.Job.{Job}
use Rattle.model.specs.declared.point.Point.{Point}
use Rattle.theory.proofs.Law.{Kept}
use Rattle.theory.proofs.Levels.{Timely}
use Rattle.theory.proofs.Slopes.{Before, before_same, before_through, inward_false}
use Rattle.theory.proofs.Hulls.{Hull, Bare, hull_on, hull_lost, tighten_hull}
use Rattle.theory.proofs.Passing.{OnFirst, next, Sound, Leaves, Chosen, Seen, pass_sound}
use Rattle.theory.specs.Sweep.{inner, inward, mark, stake, tighten, pass, Funnel, alone, take_in, reach}

-- the three cases of `take_in`

passed : (ℕ → ℕ → Bool) → Point → List Point → Point → Funnel
passed in-of p other x = record { out = (pass in-of x p other).out; apex = (pass in-of x p other).apex; own = x ∷ []; other = (pass in-of x p other).rest }

take_in_none : (in-of : ℕ → ℕ → Bool) (p : Point) (other : List Point) (x : Point) → take_in in-of p [] other x ≡ passed in-of p other x
unfolding take_in tighten alone passed
take_in_none in-of p other x = refl

take_in_lost : (in-of : ℕ → ℕ → Bool) (p q : Point) (qs other : List Point) (x : Point) → inward in-of p q x ≡ false → take_in in-of p (q ∷ qs) other x ≡ passed in-of p other x
unfolding take_in tighten alone passed
take_in_lost in-of p q qs other x e = rw e refl

more_than_one : (in-of : ℕ → ℕ → Bool) (p q : Point) (qs : List Point) (x : Point) → alone (q ∷ tighten in-of p qs x) ≡ false
unfolding tighten alone
more_than_one in-of p q [] x = refl
more_than_one in-of p q (r ∷ rs) x = either (inward in-of p r x)
  where
    either : (b : Bool) → alone (q ∷ cond b (r ∷ tighten in-of r rs x) (x ∷ [])) ≡ false
    either true = refl
    either false = refl

tighten_kept : (in-of : ℕ → ℕ → Bool) (p q : Point) (qs : List Point) (x : Point) → inward in-of p q x ≡ true → tighten in-of p (q ∷ qs) x ≡ q ∷ tighten in-of q qs x
unfolding tighten
tighten_kept in-of p q qs x e = cond-true _ _ _ e

take_in_kept : (in-of : ℕ → ℕ → Bool) (p q : Point) (qs other : List Point) (x : Point) → inward in-of p q x ≡ true
    → take_in in-of p (q ∷ qs) other x ≡ record { out = []; apex = p; own = q ∷ tighten in-of q qs x; other = other }
unfolding take_in
take_in_kept in-of p q qs other x e =
    let t = tighten_kept in-of p q qs x e in
    cond-false _ _ _ (ap alone t ∙ more_than_one in-of q q qs x) ∙ ap (λ (w : List Point). record { out = []; apex = p; own = w; other = other }) t

-- a wall's point has come in, or there is none
pub record Taken (up : Bool) (jobs : List Job) (x m : ℕ) (p : Point) (own other : List Point) (r : Funnel) : Type 0 where
  pub sound : Sound up jobs x m r.apex r.own r.other
  pub early : r.apex.time < x
  pub join : (l : List Point) → Kept jobs r.apex l → Leaves up r.apex r.own r.other (next l) → Kept jobs p (r.out ++ l) × Leaves up p own other (next (r.out ++ l))

-- inward of x is inward of what x is inward of
thru : (up : Bool) (p q x : Point) (own : List Point) → p.time < x.time → OnFirst (λ o. Before up p x o) own → Before up p q x → OnFirst (λ o. Before up p q o) own
thru up p q x [] l a b = tt
thru up p q x (o ∷ os) l a b = before_through up p q x o l b a

-- the way that is chosen from p leaves it between the old chains too
chosen_leaves : (up : Bool) (p x : Point) (own other : List Point) (q : Point) → p.time < x.time → OnFirst (λ o. Before up p x o) own
    → OnFirst (λ c. OnFirst (λ o. Before up p c o) own) other → Chosen up p x other q → Leaves up p own other q
chosen_leaves up p x own [] q l a b v = record { ahead = v.ahead; in_own = thru up p q x own l a v.in_own; in_other = tt }
chosen_leaves up p x own (c ∷ cs) q l a b (inl (e, h)) =
    subst (λ (y : Point). Leaves up p own (c ∷ cs) y) (sym e) (record { ahead = h; in_own = b; in_other = before_same (not up) p c })
chosen_leaves up p x own (c ∷ cs) q l a b (inr v) = record { ahead = v.ahead; in_own = thru up p q x own l a v.in_own; in_other = v.in_other }

module _ (up : Bool) (jobs : List Job) (h : Timely jobs) (n m x : ℕ) (l : n < x) (by : m ≤ x) (end : x ≤ span jobs) (bare : Bare up jobs n x) where
  -- there is none
  no_mark : (p : Point) (own other : List Point) → mark up jobs x ≡ false → Sound up jobs n m p own other
      → Taken up jobs x m p own other (record { out = []; apex = p; own = own; other = other })
  no_mark p own other e s =
      let k = s.by_near in
      record {
        sound = record {
          near = hull_on up jobs n x p own (omega arith) (λ t o b f. elim (cases_lt t x) [
            | inl j ↦ bare t o j f
            | inr j ↦ let g : t ≡ x = omega arith in both_ways (mark up jobs x) e (subst (λ (y : ℕ). mark up jobs y ≡ true) g f)
          ]) s.near;
          far = s.far;
          apart = s.apart;
          within = s.within;
          by_near = omega arith;
          by_far = s.by_far;
        };
        early = omega arith;
        join = λ z a b. (a, b);
      }

  -- it is alone in its chain
  is_alone : (p : Point) (own other : List Point) → mark up jobs x ≡ true → Sound up jobs n m p own other
      → OnFirst (λ o. Before up p (stake up jobs x) o) own → Seen up jobs x p (stake up jobs x) → OnFirst (Seen up jobs x p) other
      → Taken up jobs x m p own other (passed (inner up) p other (stake up jobs x))
  unfolding passed
  is_alone p own other e s a b c =
      let k = s.by_near in
      let z = pass_sound up jobs h m x by end e p other (omega arith) s.by_far s.within b s.far c in
      record {
        sound = z.sound;
        early = z.early;
        join = λ y f g. let (i, j) = z.join y f g in (i, chosen_leaves up p (stake up jobs x) own other _ (at (omega arith)) a s.apart j);
      }
    where
      at : p.time < x → p.time < (stake up jobs x).time
      at o = unfold stake in o

  -- the other chain's first point is inward of the wall's points, since it is of the first point of their chain
  first_seen : (p : Point) (own other : List Point) → Hull up jobs n p own → OnFirst (λ c. OnFirst (λ o. Before up p c o) own) other → OnFirst (Seen up jobs x p) other
  first_seen p own [] f a = tt
  first_seen p [] (c ∷ cs) f a = λ t o j e. elim (cases_lt n t) [ inl k ↦ absurd (bare t k j e) | inr k ↦ absurd (f t o k e) ]
  first_seen p (q ∷ qs) (c ∷ cs) f a = λ t o j e. elim (cases_lt n t) [
    | inl k ↦ absurd (bare t k j e)
    | inr k ↦ before_through up p c q (stake up jobs t) f.0.onward a (f.0.first t o k e)
  ]

  with_mark : (p : Point) (own other : List Point) → mark up jobs x ≡ true → Sound up jobs n m p own other
      → Taken up jobs x m p own other (take_in (inner up) p own other (stake up jobs x))
  with_mark p [] other e s =
      rw (take_in_none (inner up) p other (stake up jobs x))
      (is_alone p [] other e s tt (λ t o j f. elim (cases_lt n t) [ inl k ↦ absurd (bare t k j f) | inr k ↦ absurd (s.near t o k f) ]) (first_seen p [] other s.near s.apart))
  with_mark p (q ∷ qs) other e s =
      elim (cases_Bool (inward (inner up) p q (stake up jobs x))) [
        | inl i ↦ rw (take_in_kept (inner up) p q qs other (stake up jobs x) i) (kept i)
        | inr i ↦
            let b = inward_false up p q (stake up jobs x) i in
            rw (take_in_lost (inner up) p q qs other (stake up jobs x) i)
            (is_alone p (q ∷ qs) other e s b (hull_lost up jobs n x p q qs s.near bare b) (first_seen p (q ∷ qs) other s.near s.apart))
      ]
    where
      kept : inward (inner up) p q (stake up jobs x) ≡ true
          → Taken up jobs x m p (q ∷ qs) other (record { out = []; apex = p; own = q ∷ tighten (inner up) q qs (stake up jobs x); other = other })
      kept i =
          let k = s.by_near in
          record {
            sound = record {
              near = subst (λ (w : List Point). Hull up jobs x p w) (tighten_kept (inner up) p q qs (stake up jobs x) i)
                  (tighten_hull up jobs n x p (q ∷ qs) l (omega arith) bare e s.near);
              far = s.far;
              apart = s.apart;
              within = s.within;
              by_near = omega arith;
              by_far = s.by_far;
            };
            early = omega arith;
            join = λ y a b. (a, record { ahead = b.ahead; in_own = b.in_own; in_other = b.in_other });
          }

  pub reach_sound : (p : Point) (own other : List Point) → Sound up jobs n m p own other → Taken up jobs x m p own other (reach up jobs x p own other)
  unfolding reach
  reach_sound p own other s =
      elim (cases_Bool (mark up jobs x)) [
        | inl e ↦ subst (λ (r : Funnel). Taken up jobs x m p own other r) (sym (cond-true _ _ _ e)) (with_mark p own other e s)
        | inr e ↦ subst (λ (r : Funnel). Taken up jobs x m p own other r) (sym (cond-false _ _ _ e)) (no_mark p own other e s)
      ]
