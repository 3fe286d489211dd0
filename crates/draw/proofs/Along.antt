-- The pieces of a lawful path and the cuts of its jobs, by number.
-- Times rise from corner to corner and from cut to cut, so the piece at a time is the one whose ends enclose it,
-- and a corner after a cut is no sooner than the next cut.
use Rattle.std.proofs.Common.{◌≡◌, ℕ, zero, suc, ◌+◌, ◌<◌, ◌≤◌, List, [], ◌∷◌, ◌++◌, length, get_or, drop, sym, refl, ap, ◌∙◌, subst, inl, inr, ap₂, add-one, arith}
use Rattle.std.proofs.lemmas.List.{drop_more, get_or-map, length-map}
use Rattle.std.proofs.lemmas.Bool.{cases_lt}
use Rattle.model.specs.Jobs.{Ordered, job_at, span, cuts}
use Rattle.model.specs.Path.{start, piece_from, piece_at}
use Rattle.model.specs.Plan.{stretch, stretches}
use Rattle.model.specs.declared.cut.Cut.{Cut}
use Rattle.model.specs.declared.job.Job.{Job}
use Rattle.model.specs.declared.point.Point.{Point}
use Rattle.model.specs.declared.step.Step.{Step}
use Rattle.theory.specs.Survey.{cut_of, survey}
use Rattle.theory.proofs.Law.{Kept}
use Rattle.theory.proofs.Cuts.{Among, Rises, rises_above, cuts_rooted}
use Rattle.theory.proofs.Drawn.{piece_first, piece_rest}
use Rattle.draw.specs.Lanes.{begin_at, end_at, piece_no}

-- where piece number k begins on a path from p
begin_of : Point → List Point → ℕ → Point
begin_of p c zero = p
begin_of p c (suc k) = get_or c k start

begin_next : (p q : Point) (qs : List Point) (k : ℕ) → begin_of p (q ∷ qs) (suc k) ≡ begin_of q qs k
unfolding begin_of
begin_next p q qs zero = refl
begin_next p q qs (suc k) = refl

begin_is : (c : List Point) (k : ℕ) → begin_of start c k ≡ begin_at c k
unfolding begin_of
begin_is c zero = refl
begin_is c (suc k) = refl

module _ (jobs : List Job) where
  -- every piece goes on in time
  onward_from : (p : Point) (c : List Point) → Kept jobs p c → (k : ℕ) → k < length c → (p.time ≤ (begin_of p c k).time) × ((begin_of p c k).time < (get_or c k start).time)
  unfolding begin_of
  onward_from p [] h k l = absurd (omega arith)
  onward_from p (q ∷ []) h zero l = (omega arith, h.0.onward)
  onward_from p (q ∷ []) h (suc k) l = absurd (omega arith)
  onward_from p (q ∷ (r ∷ rs)) h zero l = (omega arith, h.0.onward)
  onward_from p (q ∷ (r ∷ rs)) h (suc k) l =
      let (a, b) = onward_from q (r ∷ rs) h.2 k (omega arith) in
      let e = ap (λ (x : Point). x.time) (begin_next p q (r ∷ rs) k) in
      let o = h.0.onward in
      (omega arith, omega arith)

  -- the last ends at the end
  last_from : (p : Point) (c : List Point) → Kept jobs p c → (k : ℕ) → k < length c → length c ≤ suc k → (get_or c k start).time ≡ span jobs
  last_from p [] h k l m = absurd (omega arith)
  last_from p (q ∷ []) h zero l m = h.1
  last_from p (q ∷ []) h (suc k) l m = absurd (omega arith)
  last_from p (q ∷ (r ∷ rs)) h zero l m = absurd (omega arith)
  last_from p (q ∷ (r ∷ rs)) h (suc k) l m = last_from q (r ∷ rs) h.2 k (omega arith) (omega arith)

  -- the piece whose ends enclose a time is the piece at that time
  piece_from_is : (p : Point) (c : List Point) → Kept jobs p c → (k t : ℕ) → k < length c → (begin_of p c k).time ≤ t → t < (get_or c k start).time
      → piece_from p c t ≡ record { from = begin_of p c k; to = get_or c k start }
  unfolding begin_of
  piece_from_is p [] h k t l a b = absurd (omega arith)
  piece_from_is p (q ∷ []) h zero t l a b = piece_first p q [] t b
  piece_from_is p (q ∷ []) h (suc k) t l a b = absurd (omega arith)
  piece_from_is p (q ∷ (r ∷ rs)) h zero t l a b = piece_first p q (r ∷ rs) t b
  piece_from_is p (q ∷ (r ∷ rs)) h (suc k) t l a b =
      let e = begin_next p q (r ∷ rs) k in
      let f = ap (λ (x : Point). x.time) e in
      let o = (onward_from q (r ∷ rs) h.2 k (omega arith)).0 in
      piece_rest p q r rs t (omega arith)
      ∙ (piece_from_is q (r ∷ rs) h.2 k t (omega arith) (omega arith) b ∙ ap (λ (x : Point). record { from = x; to = get_or (r ∷ rs) k start }) (sym e))

  module _ (c : List Point) (kept : Kept jobs start c) where
    pub onward_at : (k : ℕ) → k < length c → (begin_at c k).time < (end_at c k).time
    onward_at k l = let a = (onward_from start c kept k l).1 in let e = ap (λ (x : Point). x.time) (begin_is c k) in omega arith

    pub more_after : (k : ℕ) → k < length c → (end_at c k).time < span jobs → suc k < length c
    more_after k l m =
        elim (cases_lt (suc k) (length c)) [
          | inl n ↦ n
          | inr n ↦ let e = last_from start c kept k l n in absurd (omega arith)
        ]

    pub piece_at_is : (k t : ℕ) → k < length c → (begin_at c k).time ≤ t → t < (end_at c k).time → piece_at c t ≡ piece_no c k
    unfolding piece_at
    piece_at_is k t l a b =
        let e = begin_is c k in
        let f = ap (λ (x : Point). x.time) e in
        piece_from_is start c kept k t l (omega arith) b ∙ ap (λ (x : Point). record { from = x; to = end_at c k }) e

    -- where there is time there is a corner
    pub some_corner : 0 < span jobs → 0 < length c
    some_corner l = some c kept
      where
        some : (d : List Point) → Kept jobs start d → 0 < length d
        some [] k = let e = k.0 in absurd (omega arith)
        some (q ∷ qs) k = omega arith

-- rising times, by number
rises_low : (b : ℕ) (ts : List ℕ) → Rises b ts → (i : ℕ) → i < length (b ∷ ts) → b ≤ get_or (b ∷ ts) i 0
rises_low b ts r zero l = omega arith
rises_low b [] r (suc i) l = absurd (omega arith)
rises_low b (t ∷ ts) r (suc i) l = let a = r.0 in let k = rises_low t ts r.1 i (omega arith) in omega arith

-- from one time of a list to the next: none between
pub record Neighbours (ts : List ℕ) (s t : ℕ) : Type 0 where
  pub onward : s < t
  pub next : (x : ℕ) → Among x ts → s < x → t ≤ x
  pub there : Among t ts

neighbours : (b : ℕ) (ts : List ℕ) → Rises b ts → (i : ℕ) → suc i < length (b ∷ ts) → Neighbours (b ∷ ts) (get_or (b ∷ ts) i 0) (get_or (b ∷ ts) (suc i) 0)
neighbours b [] r i l = absurd (omega arith)
neighbours b (t ∷ ts) r zero l = record { onward = r.0; next = after; there = inr (inl refl) }
  where
    after : (x : ℕ) → Among x (b ∷ (t ∷ ts)) → b < x → t ≤ x
    after x (inl e) m = absurd (omega arith)
    after x (inr (inl e)) m = omega arith
    after x (inr (inr a)) m = let k = rises_above t ts r.1 x a in omega arith
neighbours b (t ∷ ts) r (suc i) l =
    let n = neighbours t ts r.1 i (omega arith) in
    let k = rises_low t ts r.1 i (omega arith) in
    let o = r.0 in
    record { onward = n.onward; next = after n k o; there = inr n.there }
  where
    after : Neighbours (t ∷ ts) (get_or (t ∷ ts) i 0) (get_or (t ∷ ts) (suc i) 0) → t ≤ get_or (t ∷ ts) i 0 → b < t
        → (x : ℕ) → Among x (b ∷ (t ∷ ts)) → get_or (t ∷ ts) i 0 < x → get_or (t ∷ ts) (suc i) 0 ≤ x
    after n k o x (inl e) m = absurd (omega arith)
    after n k o x (inr a) m = n.next x a m

-- the cuts begin with 0, and each is followed by its neighbour
pub cuts_begin : (jobs : List Job) → (get_or (cuts jobs) 0 0 ≡ 0) × (0 < length (cuts jobs))
cuts_begin jobs = from (cuts_rooted jobs)
  where
    from : (rest : List ℕ) × (cuts jobs ≡ 0 ∷ rest) × Rises 0 rest → (get_or (cuts jobs) 0 0 ≡ 0) × (0 < length (cuts jobs))
    from (rest, e, r) = (ap (λ (x : List ℕ). get_or x 0 0) e, let f = ap (λ (x : List ℕ). length x) e in omega arith)

pub cut_neighbours : (jobs : List Job) (i : ℕ) → suc i < length (cuts jobs) → Neighbours (cuts jobs) (get_or (cuts jobs) i 0) (get_or (cuts jobs) (suc i) 0)
cut_neighbours jobs i l = from (cuts_rooted jobs)
  where
    from : (rest : List ℕ) × (cuts jobs ≡ 0 ∷ rest) × Rises 0 rest → Neighbours (cuts jobs) (get_or (cuts jobs) i 0) (get_or (cuts jobs) (suc i) 0)
    from (rest, e, r) =
        subst (λ (x : List ℕ). Neighbours x (get_or x i 0) (get_or x (suc i) 0)) (sym e) (neighbours 0 rest r i (let f = ap (λ (x : List ℕ). length x) e in omega arith))

-- jobs take time
pub span_positive : (jobs : List Job) → Ordered jobs → 0 < length jobs → 0 < span jobs
unfolding span job_at
span_positive [] o l = absurd (omega arith)
span_positive (j ∷ js) o l = let a : j.arrival < j.deadline = o.timely 0 (omega arith) in omega arith

-- the cuts as a program holds them
pub survey_length : (jobs : List Job) → length (survey jobs) ≡ length (cuts jobs)
unfolding survey
survey_length jobs = length-map (cuts jobs) (cut_of jobs)

survey_time : (jobs : List Job) (i : ℕ) (d : Cut) → i < length (cuts jobs) → (get_or (survey jobs) i d).time ≡ get_or (cuts jobs) i 0
unfolding survey cut_of
survey_time jobs i d l = ap (λ (x : Cut). x.time) (get_or-map (cut_of jobs) (cuts jobs) i 0 d l)

-- two neighbouring cuts as a program reads them
pub record Read (jobs : List Job) (i s t : ℕ) : Type 0 where
  pub more : suc i < length (cuts jobs)
  pub here : s ≡ get_or (cuts jobs) i 0
  pub after : t ≡ get_or (cuts jobs) (suc i) 0

pub cuts_read : (jobs : List Job) (held : List Cut) → held ≡ survey jobs → (i : ℕ) (x y d : Cut) → suc i < length held → x ≡ get_or held (i + 0) d → y ≡ get_or held (i + 1) d → Read jobs i x.time y.time
cuts_read jobs held e i x y d l ex ey =
    let n = survey_length jobs in
    let f = ap (λ (x : List Cut). length x) e in
    let z : i + 0 ≡ i = omega arith in
    record {
      more = omega arith;
      here = ap (λ (x : Cut). x.time) ex ∙ (ap₂ (λ (x : List Cut) (k : ℕ). (get_or x k d).time) e z ∙ survey_time jobs i d (omega arith));
      after = ap (λ (x : Cut). x.time) ey ∙ (ap₂ (λ (x : List Cut) (k : ℕ). (get_or x k d).time) e (add-one i) ∙ survey_time jobs (suc i) d (omega arith));
    }

-- the stretches from cut number i on
pub stretches_more : (steps : List Step) (c : List Point) (ts : List ℕ) (i : ℕ) → suc i < length ts
    → stretches steps c (drop i ts) ≡ stretch steps (piece_at c (get_or ts i 0)) (get_or ts i 0) (get_or ts (suc i) 0) ++ stretches steps c (drop (suc i) ts)
unfolding stretches
stretches_more steps c ts i l =
    let a : drop i ts ≡ get_or ts i 0 ∷ drop (suc i) ts = drop_more ts i 0 (omega arith) ∙ ap (λ (k : ℕ). get_or ts i 0 ∷ drop k ts) (add-one i) in
    let b : drop (suc i) ts ≡ get_or ts (suc i) 0 ∷ drop (suc (suc i)) ts = drop_more ts (suc i) 0 l ∙ ap (λ (k : ℕ). get_or ts (suc i) 0 ∷ drop k ts) (add-one (suc i)) in
    ap (stretches steps c) (a ∙ ap (λ (x : List ℕ). get_or ts i 0 ∷ x) b)
    ∙ ap (λ (x : List ℕ). stretch steps (piece_at c (get_or ts i 0)) (get_or ts i 0) (get_or ts (suc i) 0) ++ stretches steps c x) (sym b)

pub stretches_end : (steps : List Step) (c : List Point) (ts : List ℕ) (i : ℕ) → length ts ≤ suc i → stretches steps c (drop i ts) ≡ []
unfolding stretches
stretches_end steps c [] zero l = refl
stretches_end steps c [] (suc i) l = refl
stretches_end steps c (t ∷ []) zero l = refl
stretches_end steps c (t ∷ (u ∷ us)) zero l = absurd (omega arith)
stretches_end steps c (t ∷ ts) (suc i) l = stretches_end steps c ts i (omega arith)
