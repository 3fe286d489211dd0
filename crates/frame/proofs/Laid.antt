-- Bytes laid over a frame: a part lent on, and bytes laid one after the other.
use Rattle.std.proofs.Common.{◌≡◌, ℕ, suc, ◌+◌, ◌-◌, ◌<◌, ◌≤◌, List, [], ◌∷◌, ◌++◌, length, take, drop, set, sym, ap, ◌∙◌, subst, arith}
use borrow.Rule.Slice.PartMut.{put_mid}
use Rattle.std.proofs.lemmas.List.{append_assoc, append-nil, length-append, length-take-le, length-drop, drop-drop, drop_all, take_at, drop_at, take-append-drop, set_split}
use Rattle.frame.specs.Laid.{laid}

-- a frame whose part from a place on was lent, and holds the bytes at its start now
pub laid_part : (at : ℕ) (bytes frame part : List ℕ) → at ≤ length frame → part ≡ bytes ++ drop (length bytes) (drop at frame)
    → put_mid at (length frame - at) frame part ≡ laid at bytes frame
laid_part at bytes frame part l e =
    let n : length (drop at frame) ≤ length frame - at = let d = length-drop at frame in omega arith in
    ap (λ (xs : List ℕ). take at frame ++ (part ++ xs)) (drop_all (length frame - at) (drop at frame) n)
    ∙ ap (λ (xs : List ℕ). take at frame ++ xs) (append-nil part)
    ∙ ap (λ (xs : List ℕ). take at frame ++ xs) e
    ∙ ap (λ (xs : List ℕ). take at frame ++ (bytes ++ xs)) (drop-drop (length bytes) at frame)

pub laid_length : (at : ℕ) (bytes frame : List ℕ) → at + length bytes ≤ length frame → length (laid at bytes frame) ≡ length frame
laid_length at bytes frame l =
    let a = length-append (take at frame) (bytes ++ drop (at + length bytes) frame) in
    let b = length-append bytes (drop (at + length bytes) frame) in
    let c = length-drop (at + length bytes) frame in
    let d = length-take-le at frame (omega arith) in
    omega arith

-- bytes laid behind those laid before
pub laid_on : (at next : ℕ) (first second frame : List ℕ) → next ≡ at + length first → at + length first ≤ length frame
    → laid next second (laid at first frame) ≡ laid at (first ++ second) frame
laid_on at next first second frame en l =
    let n : length (take at frame ++ first) ≡ next = let a = length-append (take at frame) first in let b = length-take-le at frame (omega arith) in omega arith in
    let s : laid at first frame ≡ (take at frame ++ first) ++ drop next frame =
    ap (λ (m : ℕ). take at frame ++ (first ++ drop m frame)) (sym en) ∙ sym (append_assoc (take at frame) first (drop next frame)) in
    let t : take next (laid at first frame) ≡ take at frame ++ first = ap (λ (xs : List ℕ). take next xs) s ∙ take_at (take at frame ++ first) (drop next frame) next n in
    let d : drop (next + length second) (laid at first frame) ≡ drop (next + length second) frame =
    sym (drop-drop (length second) next (laid at first frame))
    ∙ ap (λ (xs : List ℕ). drop (length second) xs) (ap (λ (xs : List ℕ). drop next xs) s ∙ drop_at (take at frame ++ first) (drop next frame) next n)
    ∙ drop-drop (length second) next frame in
    let m : next + length second ≡ at + length (first ++ second) = let a = length-append first second in omega arith in
    ap (λ (xs : List ℕ). xs ++ (second ++ drop (next + length second) (laid at first frame))) t
    ∙ ap (λ (xs : List ℕ). (take at frame ++ first) ++ (second ++ xs)) d
    ∙ append_assoc (take at frame) first (second ++ drop (next + length second) frame)
    ∙ ap (λ (xs : List ℕ). take at frame ++ xs) (sym (append_assoc first second (drop (next + length second) frame)))
    ∙ ap (λ (x : ℕ). take at frame ++ ((first ++ second) ++ drop x frame)) m

-- nothing is laid
pub laid_none : (at : ℕ) (frame : List ℕ) → laid at [] frame ≡ frame
laid_none at frame =
    let e : at + 0 ≡ at = omega arith in
    ap (λ (x : ℕ). take at frame ++ drop x frame) e ∙ take-append-drop at frame

-- one byte is laid
pub laid_one : (at b : ℕ) (frame : List ℕ) → at < length frame → set frame at b ≡ laid at (b ∷ []) frame
laid_one at b frame l =
    let e : suc at ≡ at + 1 = omega arith in
    set_split frame at b l ∙ ap (λ (x : ℕ). take at frame ++ (b ∷ drop x frame)) e

-- what was laid is found at its place
pub laid_there : (at : ℕ) (bytes frame : List ℕ) → at ≤ length frame → drop at (laid at bytes frame) ≡ bytes ++ drop (at + length bytes) frame
laid_there at bytes frame l = drop_at (take at frame) (bytes ++ drop (at + length bytes) frame) at (length-take-le at frame l)

-- bytes put at a place, and the place after them
pub record Put (frame out : List ℕ) (at next : ℕ) (word : List ℕ) : Type 0 where
  pub place : next ≡ at + length word
  pub bytes : out ≡ laid at word frame

-- and further bytes put behind them
pub put_on : {frame out now : List ℕ} {at next end : ℕ} {first second : List ℕ} → Put frame out at next first → Put out now next end second → next ≤ length frame
    → Put frame now at end (first ++ second)
put_on {frame} {out} {now} {at} {next} {end} {first} {second} p q l =
    let a = length-append first second in
    let b = p.place in
    let c = q.place in
    record {
      place = omega arith;
      bytes = q.bytes ∙ ap (λ (xs : List ℕ). laid next second xs) p.bytes ∙ laid_on at next first second frame b (omega arith);
    }

-- the same bytes, written otherwise
pub put_as : {frame out : List ℕ} {at next : ℕ} {word other : List ℕ} → Put frame out at next word → word ≡ other → Put frame out at next other
put_as {frame} {out} {at} {next} p e = subst (λ (xs : List ℕ). Put frame out at next xs) e p

-- a whole part overwritten
pub laid_over : (at end : ℕ) (bytes frame part : List ℕ) → part ≡ bytes → end ≡ at + length bytes → put_mid at (end - at) frame part ≡ laid at bytes frame
laid_over at end bytes frame part e n =
    let k : at + (end - at) ≡ at + length bytes = omega arith in
    ap (λ (xs : List ℕ). take at frame ++ (xs ++ drop (end - at) (drop at frame))) e
    ∙ ap (λ (xs : List ℕ). take at frame ++ (bytes ++ xs)) (drop-drop (end - at) at frame ∙ ap (λ (m : ℕ). drop m frame) k)

-- from the start
pub laid_first : (bytes frame : List ℕ) → laid 0 bytes frame ≡ bytes ++ drop (length bytes) frame
laid_first bytes frame = let e : 0 + length bytes ≡ length bytes = omega arith in ap (λ (m : ℕ). bytes ++ drop m frame) e
