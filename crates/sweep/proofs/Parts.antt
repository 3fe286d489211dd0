-- A chain as the part of a vector from a place on: a point pushed and the part lent, tightened and cut off behind what stays.
use Rattle.std.proofs.Common.{◌≡◌, ℕ, suc, ◌+◌, ◌-◌, ◌≤◌, Bool, eqb, get_or, ap₂, length-drop, List, [], ◌∷◌, ◌++◌, length, take, drop, sym, ap, ◌∙◌, length-append, arith}
use Rattle.std.proofs.Math.Seq.{get_or-append_seam, take-append_seam}
use Rattle.std.proofs.lemmas.List.{append_assoc, take-take, take_rest, take-append-le, length-take-le, drop-take, drop_at, drop-append-le}
use Rattle.std.specs.List.{refill}
use Rattle.model.specs.Path.{start}
use Rattle.model.specs.declared.point.Point.{Point}
use Rattle.sweep.specs.Views.{older, newest}
use Rattle.theory.specs.Sweep.{tighten, alone}

-- some points and one more: those before the last, and the last
one_more : (zs : List Point) (x : Point) → length (zs ++ (x ∷ [])) - 1 ≡ length zs
one_more zs x = let e = length-append zs (x ∷ []) in omega arith

older_more : (zs : List Point) (x : Point) → older (zs ++ (x ∷ [])) ≡ zs
older_more zs x = ap (λ (n : ℕ). take n (zs ++ (x ∷ []))) (one_more zs x) ∙ take-append_seam zs (x ∷ [])

newest_more : (zs : List Point) (x : Point) → newest (zs ++ (x ∷ [])) ≡ x
newest_more zs x = ap (λ (n : ℕ). get_or (zs ++ (x ∷ [])) n start) (one_more zs x) ∙ get_or-append_seam zs x [] start

-- what is lent from place s on, after a push
abbrev pub lent : ℕ → List Point → List Point
lent s ws = take (length ws - s) (drop s ws)

lent_is : (xs ys ws : List Point) (x : Point) (s : ℕ) → s ≤ length xs → ys ≡ xs ++ (x ∷ []) → ws ≡ ys → lent s ws ≡ drop s xs ++ (x ∷ [])
lent_is xs ys ws x s l e f = take_rest ws s ∙ (ap (drop s) (f ∙ e) ∙ drop-append-le s xs (x ∷ []) l)

pub tightened_part : (in-of : ℕ → ℕ → Bool) (p : Point) (xs ys ws : List Point) (x : Point) (s : ℕ) → s ≤ length xs → ys ≡ xs ++ (x ∷ []) → ws ≡ ys
    → tighten in-of p (older (lent s ws)) (newest (lent s ws)) ≡ tighten in-of p (drop s xs) x
tightened_part in-of p xs ys ws x s l e f =
    let a = lent_is xs ys ws x s l e f in
    ap₂ (tighten in-of p) (ap (λ (zs : List Point). older zs) a ∙ older_more (drop s xs) x) (ap (λ (zs : List Point). newest zs) a ∙ newest_more (drop s xs) x)

pub lent_length : (ws : List Point) (s : ℕ) → length (lent s ws) ≡ length ws - s
lent_length ws s = ap (λ (zs : List Point). length zs) (take_rest ws s) ∙ length-drop s ws

-- what is left of the part when the vector is cut n points behind its start
pub cut_is : (ys ws ch post : List Point) (s n : ℕ) → s ≤ length ws → s + n ≤ length ys → n ≤ length ch
    → drop s (take (s + n) (refill (length ys) ys (take s ws ++ (ch ++ post)))) ≡ take n ch
cut_is ys ws ch post s n l m k =
    let zs = take s ws ++ (ch ++ post) in
    let q = drop (length zs) ys in
    ap (drop s) (take-take (s + n) (length ys) (zs ++ q) m)
    ∙ (drop-take s n (zs ++ q)
    ∙ (ap (λ (w : List Point). take n (drop s w)) (append_assoc (take s ws) (ch ++ post) q)
    ∙ (ap (take n) (drop_at (take s ws) ((ch ++ post) ++ q) s (length-take-le s ws l))
    ∙ (ap (take n) (append_assoc ch post q)
    ∙ take-append-le n ch (post ++ q) k))))

-- a list of as many points as n is alone where n is 1
pub alone_one : (xs : List Point) (n : ℕ) → length xs ≡ n → eqb n 1 ≡ alone xs
unfolding alone
alone_one [] n e = ap (λ (m : ℕ). eqb m 1) (sym e)
alone_one (x ∷ []) n e = ap (λ (m : ℕ). eqb m 1) (sym e)
alone_one (x ∷ (y ∷ ys)) n e = ap (λ (m : ℕ). eqb m 1) (sym e) ∙ lib.Dec.eqb-suc-suc (suc (length ys)) 0 ∙ lib.Dec.eqb-suc-zero (length ys)
