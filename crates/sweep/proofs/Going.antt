-- The loop of the sweep: what is put out with what is still to be found is all, and both chains are bent up to the last cut.
use Rattle.std.proofs.Common.{◌≡◌, ℕ, ◌+◌, ◌-◌, ◌<◌, ◌≤◌, true, false, List, [], ◌++◌, length, get_or, take, drop, sym, ap, ap₂, ◌∙◌, subst, subst₂, refl, add-one, arith}
use Rattle.std.proofs.lemmas.List.{drop_more, take_rest, get_or-drop, length-drop}
use Rattle.model.specs.Path.{start}
use Rattle.model.specs.declared.cut.Cut.{Cut}
use Rattle.model.specs.declared.point.Point.{Point}
use Rattle.theory.proofs.Tight.{Bent}
use Rattle.sweep.specs.Swept.{no_cut, cross, swept_from, swept, Rising}
use Rattle.sweep.specs.Leaves.{Leaves}
use Rattle.sweep.specs.Views.{view}
use Rattle.sweep.specs.declared.chain.Chain.{Chain}
use Rattle.sweep.specs.declared.way.Way.{Way}
use Rattle.sweep.proofs.Crossing.{swept_start, swept_more, cross_bent}

-- after the cut at place k
abbrev pub Going : List Cut → ℕ → List Point → Point → List Point → List Point → Type 0
Going cuts k out p upper lower =
    (out ++ swept_from p upper lower (get_or cuts k no_cut) (drop (k + 1) cuts) ≡ swept cuts)
    × Bent true (get_or cuts k no_cut).time p upper
    × Bent false (get_or cuts k no_cut).time p lower

pub going_start : (cuts : List Cut) (out : List Point) (p : Point) (upper lower : List Point) → 2 ≤ length cuts → out ≡ [] → (p.time ≡ 0) × (p.height ≡ 0) → upper ≡ [] → lower ≡ [] → Going cuts 0 out p upper lower
going_start cuts out p upper lower l e (s, h) f g =
    let z : p ≡ start = ap₂ (λ (t k : ℕ). record { time = t; height = k }) s h in (
      ap (λ (w : List Point). w ++ swept_from p upper lower (get_or cuts 0 no_cut) (drop 1 cuts)) e
          ∙ (ap (λ (w : Point). swept_from w upper lower (get_or cuts 0 no_cut) (drop 1 cuts)) z
          ∙ (ap₂ (λ (w x : List Point). swept_from start w x (get_or cuts 0 no_cut) (drop 1 cuts)) f g ∙ swept_start cuts l)),
      subst (λ (w : List Point). Bent true (get_or cuts 0 no_cut).time p w) (sym f) (omega arith),
      subst (λ (w : List Point). Bent false (get_or cuts 0 no_cut).time p w) (sym g) (omega arith),
    )

-- the next cut is later
pub next_later : (cuts : List Cut) (k : ℕ) (c : Cut) → Rising cuts → k + 1 < length cuts → c ≡ get_or cuts (k + 1) no_cut → (get_or cuts k no_cut).time < c.time
next_later cuts k c r n e =
    let l = r k (omega arith) in
    let t = ap (λ (d : Cut). d.time) e in
    let s = ap (λ (j : ℕ). (get_or cuts j no_cut).time) (add-one k) in
    omega arith

pub going_more :
    (cuts : List Cut) (k : ℕ) (c : Cut) (upper lower u l : Chain) (way new : Way)
    → Rising cuts → k + 1 < length cuts → c ≡ get_or cuts (k + 1) no_cut → Going cuts k (view way.corners) way.apex (view upper) (view lower)
    → Leaves (cross c way.apex (view upper) (view lower)) u l way new
    → Going cuts (k + 1) (view new.corners) new.apex (view u) (view l)
going_more cuts k c upper lower u l way new r n e (h, x, y) f =
    let was = get_or cuts k no_cut in
    let now = get_or cuts (k + 1) no_cut in
    let after = next_later cuts k now r n refl in
    let g : Leaves (cross now way.apex (view upper) (view lower)) u l way new = subst (λ (d : Cut). Leaves (cross d way.apex (view upper) (view lower)) u l way new) e f in
    let (bu, bl) = cross_bent now way.apex (view upper) (view lower) was.time after x y in (
      swept_more (view way.corners) (view new.corners) way.apex new.apex (view upper) (view lower) (view u) (view l) was now (drop (k + 1 + 1) cuts) (swept cuts)
          (ap (λ (w : List Cut). view way.corners ++ swept_from way.apex (view upper) (view lower) was w) (sym (drop_more cuts (k + 1) no_cut n)) ∙ h) g.out g.apex g.own g.other,
      subst₂ (λ (a : Point) (w : List Point). Bent true now.time a w) (sym g.apex) (sym g.own) bu,
      subst₂ (λ (a : Point) (w : List Point). Bent false now.time a w) (sym g.apex) (sym g.other) bl,
    )

-- the cuts after the first
pub rest_at : (cuts : List Cut) (i : ℕ) → i < length (take (length cuts - 1) (drop 1 cuts)) → (get_or (take (length cuts - 1) (drop 1 cuts)) i no_cut ≡ get_or cuts (i + 1) no_cut) × (i + 1 < length cuts)
rest_at cuts i l =
    let e = take_rest cuts 1 in
    let k : 1 + i ≡ i + 1 = omega arith in
    let m = ap (λ (cs : List Cut). length cs) e in
    let d = length-drop 1 cuts in
    (ap (λ (cs : List Cut). get_or cs i no_cut) e ∙ (get_or-drop 1 cuts i no_cut ∙ ap (λ (j : ℕ). get_or cuts j no_cut) k), omega arith)

pub rest_end : (cuts : List Cut) (i : ℕ) → 2 ≤ length cuts → i ≤ length (take (length cuts - 1) (drop 1 cuts)) → length (take (length cuts - 1) (drop 1 cuts)) ≤ i → length cuts - 1 ≡ i
rest_end cuts i two l m =
    let e = ap (λ (cs : List Cut). length cs) (take_rest cuts 1) in
    let d = length-drop 1 cuts in
    omega arith
