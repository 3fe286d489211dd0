-- One cut, and the sweep along all cuts.
use Rattle.std.proofs.Common.{◌≡◌, ℕ, ◌<◌, ◌≤◌, Bool, true, false, Option, List, [], ◌∷◌, ◌++◌, length, get_or, drop, sym, refl, ap, ◌∙◌, subst, subst₂, le_refl, le_of_lt, arith}
use Rattle.std.proofs.lemmas.List.{append_assoc}
use Rattle.std.specs.Bool.{then_some}
use Rattle.std.specs.Option.{IfSome}
use Rattle.model.specs.Path.{start}
use Rattle.model.specs.declared.cut.Cut.{Cut}
use Rattle.model.specs.declared.point.Point.{Point}
use Rattle.theory.proofs.Tight.{Bent}
use Rattle.theory.specs.Sweep.{inner, Funnel}
use Rattle.sweep.specs.Ready.{Ready}
use Rattle.sweep.specs.Swept.{no_cut, stake_at, reached, reach_at, cross, swept_from, swept}
use Rattle.sweep.specs.Leaves.{Leaves}
use Rattle.sweep.specs.Views.{view}
use Rattle.sweep.specs.declared.chain.Chain.{Chain}
use Rattle.sweep.specs.declared.way.Way.{Way}
use Rattle.sweep.proofs.Taking.{reached_bent}

-- what holds of the point holds of the one that is put
of_put : (P : Point → Type 0) (b : Bool) (x : Point) → P x → IfSome (then_some b x) P
of_put P true x h = h
of_put P false x h = tt

-- a cut, step by step: the floor's point, from there the ceiling's
pub cross_leaves :
    (c : Cut) (upper lower u l v m : Chain) (way mid new : Way) (a b : Option Point) → a ≡ then_some c.falls (stake_at false c) → b ≡ then_some c.rises (stake_at true c)
    → Leaves (reached (inner false) a way.apex (view lower) (view upper)) l u way mid → Leaves (reached (inner true) b mid.apex (view u) (view l)) v m mid new
    → Leaves (cross c way.apex (view upper) (view lower)) v m way new
unfolding cross reach_at
cross_leaves c upper lower u l v m way mid new a b ea eb f g =
    let was = reached (inner false) a way.apex (view lower) (view upper) in
    let now = reached (inner true) b mid.apex (view u) (view l) in
    let p = f.apex in
    let q = f.own in
    let r = f.other in
    let e : cross c way.apex (view upper) (view lower) ≡ record { out = was.out ++ now.out; apex = now.apex; own = now.own; other = now.other } = cc in
    subst (λ (w : Funnel). Leaves w v m way new) (sym e)
    (record {
      apex = g.apex;
      own = g.own;
      other = g.other;
      out = g.out ∙ (ap (λ (w : List Point). w ++ now.out) f.out ∙ append_assoc (view way.corners) was.out now.out);
    })

-- after the floor's point the upper chain may take in the ceiling's
pub still_ready :
    (c : Cut) (upper lower u l : Chain) (way mid : Way) (a b : Option Point) → a ≡ then_some c.falls (stake_at false c) → b ≡ then_some c.rises (stake_at true c)
    → Ready true way.apex (view upper) (stake_at true c) → Ready false way.apex (view lower) (stake_at false c)
    → Leaves (reached (inner false) a way.apex (view lower) (view upper)) l u way mid → IfSome b (Ready true mid.apex (view u))
still_ready c upper lower u l way mid a b ea eb (m, k, x) (n, j, y) f =
    let r : Ready true (reached (inner false) a way.apex (view lower) (view upper)).apex (reached (inner false) a way.apex (view lower) (view upper)).other (stake_at true c) =
    subst (λ (o : Option Point). Ready true (reached (inner false) o way.apex (view lower) (view upper)).apex (reached (inner false) o way.apex (view lower) (view upper)).other (stake_at true c)) (sym ea)
    (m, k, (reached_bent false true c.falls n m (stake_at false c) way.apex (view lower) (view upper) j (le_of_lt k) y x).1) in
    subst (λ (o : Option Point). IfSome o (Ready true mid.apex (view u))) (sym eb)
    (of_put (Ready true mid.apex (view u)) c.rises (stake_at true c)
    (subst₂ (λ (q : Point) (w : List Point). Ready true q w (stake_at true c)) (sym f.apex) (sym f.other) r))

-- after a cut both chains are bent up to its time
pub cross_bent :
    (c : Cut) (p : Point) (upper lower : List Point) (n : ℕ) → n < c.time → Bent true n p upper → Bent false n p lower
    → Bent true c.time (cross c p upper lower).apex (cross c p upper lower).own × Bent false c.time (cross c p upper lower).apex (cross c p upper lower).other
unfolding cross reach_at
cross_bent c p upper lower n l a b =
    let f = reached_bent false true c.falls n n (stake_at false c) p lower upper l (le_of_lt l) b a in
    reached_bent true false c.rises n c.time (stake_at true c) _ _ _ l (le_refl c.time) f.1 f.0

-- along the loop, what is put out with what is still to be found is what the whole finds
pub swept_more :
    (out more : List Point) (p q : Point) (upper lower u l : List Point) (b c : Cut) (cs : List Cut) (all : List Point)
    → out ++ swept_from p upper lower b (c ∷ cs) ≡ all
    → more ≡ out ++ (cross c p upper lower).out → q ≡ (cross c p upper lower).apex → u ≡ (cross c p upper lower).own → l ≡ (cross c p upper lower).other
    → more ++ swept_from q u l c cs ≡ all
unfolding swept_from
swept_more out more p q upper lower u l b c cs all h m e f g =
    ap (λ (w : List Point). w ++ swept_from q u l c cs) m
    ∙ (append_assoc out (cross c p upper lower).out (swept_from q u l c cs)
    ∙ (ap (λ (w : List Point). out ++ ((cross c p upper lower).out ++ w)) (swept_same q (cross c p upper lower).apex u (cross c p upper lower).own l (cross c p upper lower).other c cs e f g)
    ∙ h))
  where
    swept_same : (p q : Point) (u v l m : List Point) (c : Cut) (cs : List Cut) → p ≡ q → u ≡ v → l ≡ m → swept_from p u l c cs ≡ swept_from q v m c cs
    swept_same p q u v l m c cs e f g =
        ap (λ (w : Point). swept_from w u l c cs) e ∙ (ap (λ (w : List Point). swept_from q w l c cs) f ∙ ap (λ (w : List Point). swept_from q v w c cs) g)

-- the start of the loop, and its end
pub swept_start : (cuts : List Cut) → 2 ≤ length cuts → swept_from start [] [] (get_or cuts 0 no_cut) (drop 1 cuts) ≡ swept cuts
unfolding swept
swept_start [] l = absurd (omega arith)
swept_start (b ∷ []) l = absurd (omega arith)
swept_start (b ∷ (c ∷ cs)) l = refl

pub swept_few : (cuts : List Cut) → length cuts < 2 → [] ≡ swept cuts
unfolding swept
swept_few [] l = refl
swept_few (b ∷ []) l = refl
swept_few (b ∷ (c ∷ cs)) l = absurd (omega arith)

pub swept_end : (out more : List Point) (p : Point) (upper lower : List Point) (b : Cut) (cs : List Cut) (all : List Point) → out ++ swept_from p upper lower b cs ≡ all → cs ≡ [] → more ≡ out ++ (stake_at true b ∷ []) → more ≡ all
unfolding swept_from
swept_end out more p upper lower b cs all h e m = m ∙ (ap (λ (w : List Cut). out ++ swept_from p upper lower b w) (sym e) ∙ h)
