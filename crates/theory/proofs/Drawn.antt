-- The plan drawn from a corner list, what it asks of the list, and the way along its pieces.
-- At each time up to the end there is one piece to look at, and from cut to cut it stays the same or gives way to its neighbour at a turn.
use Rattle.std.proofs.Common.{◌≡◌, ℕ, ◌*◌, ◌<◌, ◌≤◌, ltb, ◌⊎◌, List, [], ◌∷◌, sym, refl, ◌∙◌, subst, inl, inr, arith}
use Rattle.std.proofs.lemmas.Bool.{cond-true, cond-false, cases_lt, lt-ltb, le-ltb}
use Rattle.model.specs.Steps.{Lawful, top_speed}
use Rattle.model.specs.Jobs.{Ordered, total, span, cuts}
use Rattle.model.specs.Path.{start, run, rise, Piece, piece_from, piece_at, path}
use Rattle.model.specs.Plan.{stretches, joined, plan}
use Rattle.model.specs.declared.job.Job.{Job}
use Rattle.model.specs.declared.point.Point.{Point}
use Rattle.model.specs.declared.segment.Segment.{Segment}
use Rattle.model.specs.declared.step.Step.{Step}
use Rattle.theory.proofs.Law.{Straight, Turns, Kept}
use Rattle.theory.proofs.Cuts.{Among}

-- the plan drawn from a corner list
unfoldable pub drawn : List Step → List Job → List Point → List Segment
drawn steps jobs c = joined (stretches steps c (cuts jobs))

pub plan_drawn : (steps : List Step) (jobs : List Job) → plan steps jobs ≡ drawn steps jobs (path jobs)
unfolding plan drawn
plan_drawn steps jobs = refl

-- every corner is at one of the times
abbrev pub AtCuts : List ℕ → List Point → Type 0
AtCuts ts [] = Unit
AtCuts ts (q ∷ qs) = Among q.time ts × AtCuts ts qs

-- from p on no piece is steeper than the top speed
abbrev pub Gentle : List Step → Point → List Point → Type 0
Gentle steps p [] = Unit
Gentle steps p (q ∷ qs) = (rise p q ≤ top_speed steps * run p q) × Gentle steps q qs

-- what a plan can be drawn from
pub record Drawable (steps : List Step) (jobs : List Job) (c : List Point) : Type 0 where
  pub lawful : Lawful steps
  pub ordered : Ordered jobs
  pub kept : Kept jobs start c
  pub at_cuts : AtCuts (cuts jobs) c
  pub gentle : Gentle steps start c

-- l is the piece to look at from time t on
pub record On (steps : List Step) (jobs : List Job) (t : ℕ) (l : Piece) : Type 0 where
  pub straight : Straight jobs l.from l.to
  pub slope : rise l.from l.to ≤ top_speed steps * run l.from l.to
  pub end_cut : Among l.to.time (cuts jobs)
  pub begun : l.from.time ≤ t
  pub going : t < span jobs → t < l.to.time
  pub ended : t ≡ span jobs → (l.to.time ≡ span jobs) × (l.to.height ≡ total jobs)

-- a path never is past the end
kept_in_span : (jobs : List Job) (p : Point) (c : List Point) → Kept jobs p c → p.time ≤ span jobs
kept_in_span jobs p [] k = let e = k.0 in omega arith
kept_in_span jobs p (q ∷ []) k = let o = k.0.onward in let e = k.1 in omega arith
kept_in_span jobs p (q ∷ (r ∷ rs)) k = let o = k.0.onward in let e = kept_in_span jobs q (r ∷ rs) k.2 in omega arith

pub kept_before_end : (jobs : List Job) (p q : Point) (qs : List Point) → Kept jobs p (q ∷ qs) → (p.time < q.time) × (q.time ≤ span jobs)
kept_before_end jobs p q [] k = (k.0.onward, let e = k.1 in omega arith)
kept_before_end jobs p q (r ∷ rs) k = (k.0.onward, kept_in_span jobs q (r ∷ rs) k.2)

-- the first piece, and those after it
pub piece_first : (p q : Point) (qs : List Point) (t : ℕ) → t < q.time → piece_from p (q ∷ qs) t ≡ record { from = p; to = q }
unfolding piece_from
piece_first p q [] t l = refl
piece_first p q (r ∷ rs) t l = cond-true (ltb t q.time) _ _ (lt-ltb t q.time l)

pub piece_rest : (p q r : Point) (rs : List Point) (t : ℕ) → q.time ≤ t → piece_from p (q ∷ (r ∷ rs)) t ≡ piece_from q (r ∷ rs) t
unfolding piece_from
piece_rest p q r rs t l = cond-false (ltb t q.time) _ _ (le-ltb t q.time l)

on_from : (steps : List Step) (jobs : List Job) (p : Point) (c : List Point) → Kept jobs p c → AtCuts (cuts jobs) c → Gentle steps p c
    → p.time < span jobs → (t : ℕ) → p.time ≤ t → On steps jobs t (piece_from p c t)
unfolding piece_from
on_from steps jobs p [] k a g b t l = let e = k.0 in absurd (omega arith)
on_from steps jobs p (q ∷ []) k a g b t l = record {
  straight = k.0;
  slope = g.0;
  end_cut = a.0;
  begun = l;
  going = λ m. let e = k.1 in omega arith;
  ended = λ e. (k.1, k.2);
}
on_from steps jobs p (q ∷ (r ∷ rs)) k a g b t l =
    elim (cases_lt t q.time) [
      | inl m ↦ subst (On steps jobs t) (sym (piece_first p q (r ∷ rs) t m)) (record {
        straight = k.0;
        slope = g.0;
        end_cut = a.0;
        begun = l;
        going = λ n. m;
        ended = λ e. let n = kept_before_end jobs q r rs k.2 in absurd (omega arith);
      })
      | inr m ↦
          let n = kept_before_end jobs q r rs k.2 in
          subst (On steps jobs t) (sym (piece_rest p q r rs t m)) (on_from steps jobs q (r ∷ rs) k.2 a.1 g.1 (omega arith) t m)
    ]

-- what a later time's piece m is to l: the same, or its neighbour after a turn at time t
abbrev pub Next : List Job → ℕ → Piece → Piece → Type 0
Next jobs t l m = (m ≡ l) ⊎ ((m.from ≡ l.to) × (l.to.time ≡ t) × Turns jobs l.from l.to m.to)

pub next_from : (jobs : List Job) (p : Point) (c : List Point) → Kept jobs p c → (s t : ℕ) → p.time ≤ s → s ≤ t → t ≤ (piece_from p c s).to.time
    → Next jobs t (piece_from p c s) (piece_from p c t)
unfolding piece_from
next_from jobs p [] k s t a b l = inl refl
next_from jobs p (q ∷ []) k s t a b l = inl refl
next_from jobs p (q ∷ (r ∷ rs)) k s t a b l =
    elim (cases_lt s q.time) [
      | inl m ↦
          let e = piece_first p q (r ∷ rs) s m in
          let l2 : t ≤ q.time = subst (λ (x : Piece). t ≤ x.to.time) e l in
          elim (cases_lt t q.time) [
            | inl n ↦ inl (piece_first p q (r ∷ rs) t n ∙ sym e)
            | inr n ↦
                let o = kept_before_end jobs q r rs k.2 in
                let f : piece_from p (q ∷ (r ∷ rs)) t ≡ record { from = q; to = r } = piece_rest p q r rs t n ∙ piece_first q r rs t (omega arith) in
                inr (subst (λ (x : Piece). (x.from ≡ (piece_from p (q ∷ (r ∷ rs)) s).to) × ((piece_from p (q ∷ (r ∷ rs)) s).to.time ≡ t) × Turns jobs (piece_from p (q ∷ (r ∷ rs)) s).from (piece_from p (q ∷ (r ∷ rs)) s).to x.to) (sym f)
                (subst (λ (x : Piece). (q ≡ x.to) × (x.to.time ≡ t) × Turns jobs x.from x.to r) (sym e) (refl, omega arith, k.1)))
          ]
      | inr m ↦
          let e = piece_rest p q r rs s m in
          let f = piece_rest p q r rs t (omega arith) in
          subst (λ (x : Piece). Next jobs t x (piece_from p (q ∷ (r ∷ rs)) t)) (sym e)
          (subst (Next jobs t (piece_from q (r ∷ rs) s)) (sym f)
          (next_from jobs q (r ∷ rs) k.2 s t m b (subst (λ (x : Piece). t ≤ x.to.time) e l)))
    ]

module _ (steps : List Step) (jobs : List Job) (c : List Point) (d : Drawable steps jobs c) where
  -- the piece at each time, where there is time at all
  pub on_piece : 0 < span jobs → (t : ℕ) → On steps jobs t (piece_at c t)
  unfolding piece_at
  on_piece l t = on_from steps jobs start c d.kept d.at_cuts d.gentle l t (omega arith)

  pub next_piece : (s t : ℕ) → s ≤ t → t ≤ (piece_at c s).to.time → Next jobs t (piece_at c s) (piece_at c t)
  unfolding piece_at
  next_piece s t b l = next_from jobs start c d.kept s t (omega arith) b l
