-- The sweep over the surveyed cuts of jobs finds the corners of the jobs' own sweep.
use Rattle.std.proofs.Common.{◌≡◌, ℕ, zero, suc, Bool, true, false, cond, List, [], ◌∷◌, ◌++◌, map, drop, sym, refl, ap, ◌∙◌, subst, arith}
use Rattle.std.proofs.lemmas.List.{append_assoc}
use Rattle.std.specs.Bool.{then_some}
use Rattle.model.specs.Jobs.{Ordered, cuts, span}
use Rattle.model.specs.Path.{start, finish}
use Rattle.model.specs.declared.job.Job.{Job}
use Rattle.model.specs.declared.point.Point.{Point}
use Rattle.theory.specs.Sweep.{inner, wall, mark, stake, Funnel, take_in, reach, sweep_from, sweep}
use Rattle.theory.specs.Survey.{cut_of, survey}
use Rattle.theory.proofs.Cuts.{cuts_rooted, Rises}
use Rattle.theory.proofs.Levels.{Timely, timely_from}
use Rattle.theory.proofs.Marks.{cuts_times}
use Rattle.theory.proofs.Swept.{Times, finish_is}
use Rattle.sweep.specs.Swept.{stake_at, reached, reach_at, cross, swept_from, swept, Rising}

-- a wall at a surveyed cut
reached_put : (in-of : ℕ → ℕ → Bool) (b : Bool) (x p : Point) (own other : List Point)
    → reached in-of (then_some b x) p own other ≡ cond b (take_in in-of p own other x) (record { out = []; apex = p; own = own; other = other })
unfolding reached
reached_put in-of true x p own other = refl
reached_put in-of false x p own other = refl

reach_floor : (jobs : List Job) (t : ℕ) (p : Point) (own other : List Point) → reach_at false (cut_of jobs t) p own other ≡ reach false jobs t p own other
unfolding reach_at cut_of reach stake wall
reach_floor jobs t p own other = reached_put (inner false) (mark false jobs t) (stake false jobs t) p own other

reach_ceiling : (jobs : List Job) (t : ℕ) (p : Point) (own other : List Point) → reach_at true (cut_of jobs t) p own other ≡ reach true jobs t p own other
unfolding reach_at cut_of reach stake wall
reach_ceiling jobs t p own other = reached_put (inner true) (mark true jobs t) (stake true jobs t) p own other

-- one cut
crossed :
    (jobs : List Job) (t : ℕ) (p : Point) (upper lower : List Point)
    → cross (cut_of jobs t) p upper lower
    ≡ (let f = reach false jobs t p lower upper in
    let g = reach true jobs t f.apex f.other f.own in
    record { out = f.out ++ g.out; apex = g.apex; own = g.own; other = g.other })
unfolding cross
crossed jobs t p upper lower =
    ap (λ (f : Funnel). let g = reach_at true (cut_of jobs t) f.apex f.other f.own in record { out = f.out ++ g.out; apex = g.apex; own = g.own; other = g.other }) (reach_floor jobs t p lower upper)
    ∙ ap (λ (g : Funnel). record { out = (reach false jobs t p lower upper).out ++ g.out; apex = g.apex; own = g.own; other = g.other })
    (reach_ceiling jobs t (reach false jobs t p lower upper).apex (reach false jobs t p lower upper).other (reach false jobs t p lower upper).own)

-- the end, where the last cut is at the end of the span
ending : (jobs : List Job) (b : ℕ) → Timely jobs → b ≡ span jobs → stake_at true (cut_of jobs b) ≡ finish jobs
unfolding cut_of
ending jobs b h e = ap (λ (t : ℕ). stake_at true (cut_of jobs t)) e ∙ (staked (span jobs) ∙ sym (finish_is true jobs h))
  where
    staked : (t : ℕ) → stake_at true (cut_of jobs t) ≡ stake true jobs t
    staked t = unfold cut_of stake wall in refl

along :
    (jobs : List Job) → Timely jobs → (b : ℕ) (ts : List ℕ) → Times jobs b ts → (p : Point) (upper lower : List Point)
    → swept_from p upper lower (cut_of jobs b) (map (cut_of jobs) ts) ≡ sweep_from jobs p upper lower ts
unfolding swept_from sweep_from
along jobs h b [] e p upper lower = ap (λ (x : Point). x ∷ []) (ending jobs b h e)
along jobs h b (t ∷ ts) (l, m, n, k) p upper lower =
    let f = reach false jobs t p lower upper in
    let g = reach true jobs t f.apex f.other f.own in
    ap (λ (w : Funnel). w.out ++ swept_from w.apex w.own w.other (cut_of jobs t) (map (cut_of jobs) ts)) (crossed jobs t p upper lower)
    ∙ (append_assoc f.out g.out (swept_from g.apex g.own g.other (cut_of jobs t) (map (cut_of jobs) ts))
    ∙ ap (λ (w : List Point). f.out ++ (g.out ++ w)) (along jobs h t ts k g.apex g.own g.other))

-- a job takes time, so the span of some jobs is not empty
span_positive : (j : Job) (js : List Job) → Timely (j ∷ js) → 0 ≡ span (j ∷ js) → ⊥
unfolding span
span_positive j js (l, h) e = omega arith

pub swept_survey : (jobs : List Job) → Ordered jobs → swept (survey jobs) ≡ sweep jobs
unfolding survey swept sweep cuts
swept_survey [] o = refl
swept_survey (j ∷ js) o =
    let (rest, e, r) = cuts_rooted (j ∷ js) in
    let h = timely_from (j ∷ js) o in
    by rest e (subst (λ (ss : List ℕ). Times (j ∷ js) 0 (drop 1 ss)) e (cuts_times (j ∷ js) h)) h
  where
    by : (rest : List ℕ) → cuts (j ∷ js) ≡ 0 ∷ rest → Times (j ∷ js) 0 rest → Timely (j ∷ js) → swept (map (cut_of (j ∷ js)) (cuts (j ∷ js))) ≡ sweep_from (j ∷ js) start [] [] (drop 1 (cuts (j ∷ js)))
    by [] e k h = absurd (span_positive j js h k)
    by (t ∷ ts) e k h =
        ap (λ (ss : List ℕ). swept (map (cut_of (j ∷ js)) ss)) e
        ∙ (along (j ∷ js) h 0 (t ∷ ts) k start [] [] ∙ ap (λ (ss : List ℕ). sweep_from (j ∷ js) start [] [] (drop 1 ss)) (sym e))

-- the surveyed cuts rise
rising_from : (jobs : List Job) (b : ℕ) (ts : List ℕ) → Rises b ts → Rising (map (cut_of jobs) (b ∷ ts))
unfolding cut_of
rising_from jobs b [] r k l = absurd (omega arith)
rising_from jobs b (t ∷ ts) r zero l = r.0
rising_from jobs b (t ∷ ts) r (suc k) l = rising_from jobs t ts r.1 k (omega arith)

pub survey_rising : (jobs : List Job) → Rising (survey jobs)
unfolding survey
survey_rising jobs =
    let (rest, e, r) = cuts_rooted jobs in
    subst (λ (ss : List ℕ). Rising (map (cut_of jobs) ss)) (sym e) (rising_from jobs 0 rest r)
