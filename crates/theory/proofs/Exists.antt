-- The path of a list of jobs keeps the law, and its corners are at cuts.
-- The sweep's corners keep the law, each is a point that a wall puts, and their times rise: so they are one of the candidates,
-- and the first candidate that keeps the law is found.
use Rattle.std.proofs.Common.{◌≡◌, ℕ, ◌<◌, Bool, true, false, cond, eqb, ◌⊎◌, List, [], ◌∷◌, ◌++◌, map, length, drop, sym, refl, ap, ◌∙◌, subst, inl, inr, arith}
use Rattle.std.proofs.lemmas.Bool.{cases_order, cases_Bool, cond-true, cond-false, both_ways}
use Rattle.model.specs.Sums.{sum_of, some_of}
use Rattle.model.specs.Jobs.{Ordered, span, total, ceiling, floor, cuts}
use Rattle.model.specs.Path.{start, finish, run, straight, keeps_from, keeps, choices, first_keeping, between, path}
use Rattle.model.specs.declared.job.Job.{Job}
use Rattle.model.specs.declared.point.Point.{Point}
use Rattle.theory.proofs.Law.{Kept, keeps_from_kept}
use Rattle.theory.proofs.Levels.{Timely, timely_from, ceiling_first, floor_le_ceiling}
use Rattle.theory.proofs.Passing.{next, Sound}
use Rattle.theory.proofs.Points.{All, sweep_from_all}
use Rattle.theory.proofs.Swept.{Times, finish_is, finish_marked, sweep_from_kept}
use Rattle.theory.proofs.Marks.{has, has_first, has_later, Inner, cuts_times, cuts_inner, cuts_span, between_has}
use Rattle.theory.specs.Sweep.{wall, mark, stake, sweep_from, sweep}

-- the state before the first cut
sound_start : (jobs : List Job) → Timely jobs → Sound true jobs 0 0 start [] []
sound_start jobs h =
    let a = ceiling_first jobs in
    let b = floor_le_ceiling jobs 0 h in
    record {
      near = λ t l m e. omega arith;
      far = λ t l m e. omega arith;
      apart = tt;
      within = record { over = omega arith; under = omega arith };
      by_near = omega arith;
      by_far = omega arith;
    }

-- a point that a wall puts
Post : List Job → Point → Type 0
Post jobs q = (up : Bool) × (mark up jobs q.time ≡ true) × (q.height ≡ wall up jobs q.time)

posts : (jobs : List Job) (ts : List ℕ) → Timely jobs → 0 < span jobs → All (Post jobs) (sweep_from jobs start [] [] ts)
unfolding Post
posts jobs ts h l =
    sweep_from_all (Post jobs) (λ q. Unit) (λ q p. tt) jobs start [] [] ts put (subst (Post jobs) (sym (finish_is true jobs h)) (put true (span jobs) (finish_marked true jobs l))) tt tt tt
  where
    put : (up : Bool) (t : ℕ) → mark up jobs t ≡ true → Post jobs (stake up jobs t)
    put up t e = unfold stake in (up, e, refl)

span_pos : (j : Job) (js : List Job) → Timely (j ∷ js) → 0 < span (j ∷ js)
unfolding span
span_pos j js (l, h) = omega arith

swept : (j : Job) (js : List Job) → Timely (j ∷ js)
    → Kept (j ∷ js) start (sweep (j ∷ js)) × (0 < (next (sweep (j ∷ js))).time) × All (Post (j ∷ js)) (sweep (j ∷ js))
unfolding sweep
swept j js h =
    let (k, v) = sweep_from_kept (j ∷ js) h 0 (drop 1 (cuts (j ∷ js))) start [] [] (cuts_times (j ∷ js) h) (sound_start (j ∷ js) h) (inr (some (drop 1 (cuts (j ∷ js))) (cuts_times (j ∷ js) h))) in
    (k, v.ahead.onward, posts (j ∷ js) (drop 1 (cuts (j ∷ js))) h (span_pos j js h))
  where
    some : (ts : List ℕ) → Times (j ∷ js) 0 ts → 0 < length ts
    some [] e = let l = span_pos j js h in omega arith
    some (t ∷ ts) e = omega arith

pub sweep_keeps : (jobs : List Job) → Ordered jobs → keeps jobs (sweep jobs) ≡ true
unfolding keeps keeps_from sweep span total sum_of
sweep_keeps [] o = refl
sweep_keeps (j ∷ js) o = keeps_from_kept (j ∷ js) start (sweep (j ∷ js)) (swept j js (timely_from (j ∷ js) o)).0

-- being one of a list of candidates
abbrev pub Among : List Point → List (List Point) → Type 0
Among c [] = ⊥
Among c (d ∷ ds) = (c ≡ d) ⊎ Among c ds

among_left : (c : List Point) (ds es : List (List Point)) → Among c ds → Among c (ds ++ es)
among_left c [] es a = elim a [ ]
among_left c (d ∷ ds) es (inl e) = inl e
among_left c (d ∷ ds) es (inr a) = inr (among_left c ds es a)

among_right : (c : List Point) (ds es : List (List Point)) → Among c es → Among c (ds ++ es)
among_right c [] es a = a
among_right c (d ∷ ds) es a = inr (among_right c ds es a)

among_map : (q : Point) (c : List Point) (ds : List (List Point)) → Among c ds → Among (q ∷ c) (map (λ d. q ∷ d) ds)
among_map q c [] a = elim a [ ]
among_map q c (d ∷ ds) (inl e) = inl (ap (λ (x : List Point). q ∷ x) e)
among_map q c (d ∷ ds) (inr a) = inr (among_map q c ds a)

first_keeping_keeps : (jobs : List Job) (c : List Point) (ds : List (List Point)) → Among c ds → keeps jobs c ≡ true → keeps jobs (first_keeping jobs ds) ≡ true
unfolding first_keeping
first_keeping_keeps jobs c [] a k = elim a [ ]
first_keeping_keeps jobs c (d ∷ ds) a k =
    elim (cases_Bool (keeps jobs d)) [
      | inl e ↦ rw (cond-true (keeps jobs d) d (first_keeping jobs ds) e) e
      | inr e ↦ rw (cond-false (keeps jobs d) d (first_keeping jobs ds) e) (first_keeping_keeps jobs c ds (other a e) k)
    ]
  where
    other : Among c (d ∷ ds) → keeps jobs d ≡ false → Among c ds
    other (inl f) e = absurd (both_ways (keeps jobs d) e (subst (λ (x : List Point). keeps jobs x ≡ true) f k))
    other (inr b) e = b

-- corners that keep the law and are points of the walls, after time n, are a candidate over the cuts after n
before_end : (jobs : List Job) (p q : Point) (rs : List Point) → Kept jobs p (q ∷ rs) → p.time < span jobs
before_end jobs p q [] k = let (s, a, b) = k in let o = s.onward in omega arith
before_end jobs p q (r ∷ rs) k = let o = k.0.onward in let b = before_end jobs q r rs k.2 in omega arith

first_onward : (jobs : List Job) (p q : Point) (rs : List Point) → Kept jobs p (q ∷ rs) → p.time < q.time
first_onward jobs p q [] k = k.0.onward
first_onward jobs p q (r ∷ rs) k = k.0.onward

point_is : (q : Point) (t h : ℕ) → q.time ≡ t → q.height ≡ h → q ≡ record { time = t; height = h }
point_is q t h e f = ap (λ (x : ℕ). record { time = x; height = q.height }) e ∙ ap (λ (y : ℕ). record { time = t; height = y }) f

-- a corner on a wall at time t, before a candidate over the later times
pick : (jobs : List Job) (t : ℕ) (up : Bool) (q : Point) (c : List Point) (ds : List (List Point)) → q.time ≡ t → q.height ≡ wall up jobs q.time → Among c ds
    → Among (q ∷ c) (ds ++ (map (λ d. record { time = t; height = ceiling jobs t } ∷ d) ds ++ map (λ d. record { time = t; height = floor jobs t } ∷ d) ds))
unfolding wall
pick jobs t true q c ds e f a =
    among_right (q ∷ c) ds _ (among_left (q ∷ c) _ _
    (subst (λ (x : Point). Among (x ∷ c) (map (λ d. record { time = t; height = ceiling jobs t } ∷ d) ds)) (sym (point_is q t (ceiling jobs t) e (f ∙ ap (ceiling jobs) e)))
    (among_map (record { time = t; height = ceiling jobs t }) c ds a)))
pick jobs t false q c ds e f a =
    among_right (q ∷ c) ds _ (among_right (q ∷ c) (map (λ d. record { time = t; height = ceiling jobs t } ∷ d) ds) _
    (subst (λ (x : Point). Among (x ∷ c) (map (λ d. record { time = t; height = floor jobs t } ∷ d) ds)) (sym (point_is q t (floor jobs t) e (f ∙ ap (floor jobs) e)))
    (among_map (record { time = t; height = floor jobs t }) c ds a)))

is_candidate : (jobs : List Job) (n : ℕ) (ts : List ℕ) (p : Point) (c : List Point) → Inner jobs n ts → Kept jobs p c → All (Post jobs) c → n < (next c).time → Among c (choices jobs ts)
unfolding choices finish Post
is_candidate jobs n [] p [] i k w l = absurd (omega arith)
is_candidate jobs n [] p (q ∷ []) i (s, a, b) w l = inl (ap (λ (x : Point). x ∷ []) (point_is q (span jobs) (total jobs) a b))
is_candidate jobs n [] p (q ∷ (r ∷ rs)) i (s, z, k) ((up, m, e), w) l =
    let b = before_end jobs q r rs k in
    absurd (i up q.time l b m)
is_candidate jobs n (t ∷ ts) p [] i k w l = absurd (omega arith)
is_candidate jobs n (t ∷ ts) p (q ∷ []) (a, b, bare, i) k w l =
    let (s, e, f) = k in
    among_left (q ∷ []) (choices jobs ts) _ (is_candidate jobs t ts p (q ∷ []) i k w (omega arith))
is_candidate jobs n (t ∷ ts) p (q ∷ (r ∷ rs)) (a, b, bare, i) k w l =
    elim (cases_order q.time t) [
      | inl e ↦ pick jobs t w.0.0 q (r ∷ rs) (choices jobs ts) e w.0.2 (is_candidate jobs t ts q (r ∷ rs) i k.2 w.1 (after e (first_onward jobs q r rs k.2)))
      | inr d ↦ elim d [
        | inl o ↦ absurd (bare w.0.0 q.time l o w.0.1)
        | inr o ↦ among_left (q ∷ (r ∷ rs)) (choices jobs ts) _ (is_candidate jobs t ts p (q ∷ (r ∷ rs)) i k w o)
      ]
    ]
  where
    after : q.time ≡ t → q.time < r.time → t < r.time
    after e o = omega arith

pub sweep_among : (j : Job) (js : List Job) → Ordered (j ∷ js) → Among (sweep (j ∷ js)) (choices (j ∷ js) (between (span (j ∷ js)) (cuts (j ∷ js))))
sweep_among j js o =
    let h = timely_from (j ∷ js) o in
    let (k, l, p) = swept j js h in
    is_candidate (j ∷ js) 0 (between (span (j ∷ js)) (cuts (j ∷ js))) start (sweep (j ∷ js)) (cuts_inner (j ∷ js) h) k p l

pub path_keeps : (jobs : List Job) → Ordered jobs → keeps jobs (path jobs) ≡ true
unfolding path
path_keeps [] o = nothing
  where
    nothing : keeps [] (path []) ≡ true
    nothing = unfold path first_keeping choices between cuts keeps keeps_from straight run span total sum_of finish in refl
path_keeps (j ∷ js) o = first_keeping_keeps (j ∷ js) (sweep (j ∷ js)) (choices (j ∷ js) (between (span (j ∷ js)) (cuts (j ∷ js)))) (sweep_among j js o) (sweep_keeps (j ∷ js) o)

-- the corners of a path that are at times of a list
abbrev pub CornersAtCuts : List ℕ → List Point → Type 0
CornersAtCuts ts [] = Unit
CornersAtCuts ts (q ∷ qs) = (some_of (λ s. eqb s q.time) ts ≡ true) × CornersAtCuts ts qs

-- so are all candidates
abbrev pub AllAt : List ℕ → List (List Point) → Type 0
AllAt ts [] = Unit
AllAt ts (c ∷ cs) = CornersAtCuts ts c × AllAt ts cs

all_append : (ts : List ℕ) (cs ds : List (List Point)) → AllAt ts cs → AllAt ts ds → AllAt ts (cs ++ ds)
all_append ts [] ds a b = b
all_append ts (c ∷ cs) ds (x, a) b = (x, all_append ts cs ds a b)

all_map : (ts : List ℕ) (q : Point) (cs : List (List Point)) → has ts q.time ≡ true → AllAt ts cs → AllAt ts (map (λ c. q ∷ c) cs)
all_map ts q [] e a = tt
all_map ts q (c ∷ cs) e (x, a) = ((e, x), all_map ts q cs e a)

pub choices_at : (jobs : List Job) (all ts : List ℕ) → has all (span jobs) ≡ true → ((u : ℕ) → has ts u ≡ true → has all u ≡ true) → AllAt all (choices jobs ts)
unfolding choices finish
choices_at jobs all [] e h = ((e, tt), tt)
choices_at jobs all (t ∷ ts) e h =
    let r = choices_at jobs all ts e (λ u f. h u (has_later t u ts f)) in
    let g = h t (has_first t ts) in
    all_append all (choices jobs ts) _ r
    (all_append all (map (λ c. record { time = t; height = ceiling jobs t } ∷ c) (choices jobs ts)) _ (all_map all (record { time = t; height = ceiling jobs t }) (choices jobs ts) g r)
    (all_map all (record { time = t; height = floor jobs t }) (choices jobs ts) g r))

first_keeping_at : (jobs : List Job) (ts : List ℕ) (cs : List (List Point)) → AllAt ts cs → CornersAtCuts ts (first_keeping jobs cs)
unfolding first_keeping
first_keeping_at jobs ts [] a = tt
first_keeping_at jobs ts (c ∷ cs) (x, a) = go (keeps jobs c) (first_keeping_at jobs ts cs a)
  where
    go : (b : Bool) → CornersAtCuts ts (first_keeping jobs cs) → CornersAtCuts ts (cond b c (first_keeping jobs cs))
    go true r = x
    go false r = r

pub path_corners : (jobs : List Job) → CornersAtCuts (cuts jobs) (path jobs)
unfolding path
path_corners jobs =
    first_keeping_at jobs (cuts jobs) (choices jobs (between (span jobs) (cuts jobs)))
    (choices_at jobs (cuts jobs) (between (span jobs) (cuts jobs)) (cuts_span jobs) (λ u e. between_has (span jobs) u (cuts jobs) e))
