-- Slopes seen from a point, compared with nothing subtracted but times, and for either wall at once.
-- At the ceiling a slope is inward of another when it is at most that, at the floor when it is at least that: `Before` says this for both.
-- Everything that the sweep needs of geometry is here: the comparison is transitive, and three facts move it from one point on to a later one.
use Rattle.std.proofs.Common.{◌≡◌, ℕ, ◌+◌, ◌*◌, ◌<◌, ◌≤◌, Bool, true, false, not, mul-le-mul_right, lt_of_mul-lt-mul_right, mul-lt-mul_of_pos_right, le_of_mul-le-mul_right, arith}
use Rattle.std.proofs.lemmas.Bool.{ltb-true, ltb-false, lt-ltb}
use Rattle.model.specs.Path.{run}
use Rattle.model.specs.declared.point.Point.{Point}
use Rattle.theory.proofs.Heights.{terms}
use Rattle.theory.specs.Sweep.{inner, inward}

-- the facts as numbers: p, q, .. are heights, a, b, .. the runs to them

through : (p q r s a b c : ℕ) → 0 < b → q * b + p * a ≤ r * a + p * b → r * c + p * b ≤ s * b + p * c → q * c + p * a ≤ s * a + p * c
through p q r s a b c o l m =
    let x = simp terms at (mul-le-mul_right c l) in
    let y = simp terms at (mul-le-mul_right a m) in
    let z : (q * c + p * a) * b ≤ (s * a + p * c) * b = simp terms (omega arith) in
    le_of_mul-le-mul_right z o

-- from a point at run u on, with the later ones at runs u + g and u + x
moved : (p c g x u v w : ℕ) → 0 < u → g * u + p * (u + v) ≤ c * (u + v) + p * u → c * (u + w) + p * u ≤ x * u + p * (u + w) → g * w + c * v ≤ x * v + c * w
moved p c g x u v w o l m =
    let y = simp terms at (mul-le-mul_right w l) in
    let z = simp terms at (mul-le-mul_right v m) in
    let k : (g * w + c * v) * u ≤ (x * v + c * w) * u = simp terms (omega arith) in
    le_of_mul-le-mul_right k o

carried_up : (p c x q u v w : ℕ) → 0 < v → c * (u + v) + p * u ≤ x * u + p * (u + v) → x * w + c * v ≤ q * v + c * w → c * (u + w) + p * u ≤ q * u + p * (u + w)
carried_up p c x q u v w o l m =
    let y = simp terms at (mul-le-mul_right w l) in
    let z = simp terms at (mul-le-mul_right u m) in
    let k : (c * (u + w) + p * u) * v ≤ (q * u + p * (u + w)) * v = simp terms (omega arith) in
    le_of_mul-le-mul_right k o

carried_down : (p c x q u v w : ℕ) → 0 < v → x * u + p * (u + v) ≤ c * (u + v) + p * u → q * v + c * w ≤ x * w + c * v → q * u + p * (u + w) ≤ c * (u + w) + p * u
carried_down p c x q u v w o l m =
    let y = simp terms at (mul-le-mul_right w l) in
    let z = simp terms at (mul-le-mul_right u m) in
    let k : (q * u + p * (u + w)) * v ≤ (c * (u + w) + p * u) * v = simp terms (omega arith) in
    le_of_mul-le-mul_right k o

-- the last two once more where the first comparison is strict
strictly_up : (p c x q u v w : ℕ) → 0 < w → c * (u + v) + p * u < x * u + p * (u + v) → x * w + c * v ≤ q * v + c * w → c * (u + w) + p * u < q * u + p * (u + w)
strictly_up p c x q u v w o l m =
    let y = simp terms at (mul-lt-mul_of_pos_right l o) in
    let z = simp terms at (mul-le-mul_right u m) in
    let k : (c * (u + w) + p * u) * v < (q * u + p * (u + w)) * v = simp terms (omega arith) in
    lt_of_mul-lt-mul_right v k

strictly_down : (p c x q u v w : ℕ) → 0 < w → x * u + p * (u + v) < c * (u + v) + p * u → q * v + c * w ≤ x * w + c * v → q * u + p * (u + w) < c * (u + w) + p * u
strictly_down p c x q u v w o l m =
    let y = simp terms at (mul-lt-mul_of_pos_right l o) in
    let z = simp terms at (mul-le-mul_right u m) in
    let k : (q * u + p * (u + w)) * v < (c * (u + w) + p * u) * v = simp terms (omega arith) in
    lt_of_mul-lt-mul_right v k

-- the slope from p to q is at most that from p to r
unfoldable pub Low : Point → Point → Point → Type 0
Low p q r = q.height * run p r + p.height * run p q ≤ r.height * run p q + p.height * run p r

-- seen from p, q is at least as far inward as r
abbrev pub Before : Bool → Point → Point → Point → Type 0
Before true p q r = Low p q r
Before false p q r = Low p r q

run_sum : (p q r : Point) → p.time ≤ q.time → q.time ≤ r.time → run p r ≡ run p q + run q r
unfolding run
run_sum p q r l m = omega arith

low_through : (p q r s : Point) → p.time < r.time → Low p q r → Low p r s → Low p q s
unfolding Low run
low_through p q r s o l m = through p.height q.height r.height s.height (run p q) (run p r) (run p s) (omega arith) l m

low_moved : (p c g x : Point) → p.time < c.time → c.time < g.time → c.time < x.time → Low p g c → Low p c x → Low c g x
unfolding Low
low_moved p c g x o k j l m =
    let e = run_sum p c g (omega arith) (omega arith) in
    let f = run_sum p c x (omega arith) (omega arith) in
    moved p.height c.height g.height x.height (run p c) (run c g) (run c x) (pos o) (rw (← e) l) (rw (← f) m)
  where
    pos : p.time < c.time → 0 < run p c
    pos o = unfold run in omega arith

low_carried_up : (p c x q : Point) → p.time < c.time → c.time < x.time → c.time < q.time → Low p c x → Low c x q → Low p c q
unfolding Low
low_carried_up p c x q o k j l m =
    let e = run_sum p c x (omega arith) (omega arith) in
    let f = run_sum p c q (omega arith) (omega arith) in
    rw f (carried_up p.height c.height x.height q.height (run p c) (run c x) (run c q) (pos k) (rw (← e) l) m)
  where
    pos : c.time < x.time → 0 < run c x
    pos k = unfold run in omega arith

low_carried_down : (p c x q : Point) → p.time < c.time → c.time < x.time → c.time < q.time → Low p x c → Low c q x → Low p q c
unfolding Low
low_carried_down p c x q o k j l m =
    let e = run_sum p c x (omega arith) (omega arith) in
    let f = run_sum p c q (omega arith) (omega arith) in
    rw f (carried_down p.height c.height x.height q.height (run p c) (run c x) (run c q) (pos k) (rw (← e) l) m)
  where
    pos : c.time < x.time → 0 < run c x
    pos k = unfold run in omega arith

-- the same for either wall

pub before_same : (up : Bool) (p q : Point) → Before up p q q
unfolding Low
before_same true p q = omega arith
before_same false p q = omega arith

pub before_flip : (up : Bool) (p q r : Point) → Before up p q r → Before (not up) p r q
before_flip true p q r l = l
before_flip false p q r l = l

pub before_flip_back : (up : Bool) (p q r : Point) → Before (not up) p q r → Before up p r q
before_flip_back true p q r l = l
before_flip_back false p q r l = l

pub before_through : (up : Bool) (p q r s : Point) → p.time < r.time → Before up p q r → Before up p r s → Before up p q s
before_through true p q r s o l m = low_through p q r s o l m
before_through false p q r s o l m = low_through p s r q o m l

-- g is inward of c and c of x, seen from p: then g is inward of x, seen from c
pub before_moved : (up : Bool) (p c g x : Point) → p.time < c.time → c.time < g.time → c.time < x.time → Before up p g c → Before up p c x → Before up c g x
before_moved true p c g x o k j l m = low_moved p c g x o k j l m
before_moved false p c g x o k j l m = low_moved p c x g o j k m l

-- c is inward of x, and x of q, seen from c: then c is inward of q
pub before_carried : (up : Bool) (p c x q : Point) → p.time < c.time → c.time < x.time → c.time < q.time → Before up p c x → Before up c x q → Before up p c q
before_carried true p c x q o k j l m = low_carried_up p c x q o k j l m
before_carried false p c x q o k j l m = low_carried_down p c x q o k j l m

-- what the test says
pub inward_true : (up : Bool) (p q r : Point) → inward (inner up) p q r ≡ true → Before up p q r
unfolding inward inner Low
inward_true true p q r e = let l = ltb-true _ _ e in omega arith
inward_true false p q r e = let l = ltb-true _ _ e in omega arith

pub inward_false : (up : Bool) (p q r : Point) → inward (inner up) p q r ≡ false → Before up p r q
unfolding inward inner Low
inward_false true p q r e = ltb-false _ _ e
inward_false false p q r e = ltb-false _ _ e

-- c is strictly inward of x, and x inward of q, seen from c: then c is strictly inward of q
pub inward_carried : (up : Bool) (p c x q : Point) → p.time ≤ c.time → c.time ≤ x.time → c.time < q.time
    → inward (inner up) p c x ≡ true → Before up c x q → inward (inner up) p c q ≡ true
unfolding inward inner Low
inward_carried true p c x q k j o e m =
    let l = ltb-true (c.height * run p x + p.height * run p c) (x.height * run p c + p.height * run p x) e in
    let r = run_sum p c x k j in
    let s = run_sum p c q (omega arith) (omega arith) in
    lt-ltb _ _ (rw s (strictly_up p.height c.height x.height q.height (run p c) (run c x) (run c q) (pos o) (rw (← r) l) m))
  where
    pos : c.time < q.time → 0 < run c q
    pos o = unfold run in omega arith
inward_carried false p c x q k j o e m =
    let l = ltb-true (x.height * run p c + p.height * run p x) (c.height * run p x + p.height * run p c) e in
    let r = run_sum p c x k j in
    let s = run_sum p c q (omega arith) (omega arith) in
    lt-ltb _ _ (rw s (strictly_down p.height c.height x.height q.height (run p c) (run c x) (run c q) (pos o) (rw (← r) l) m))
  where
    pos : c.time < q.time → 0 < run c q
    pos o = unfold run in omega arith
