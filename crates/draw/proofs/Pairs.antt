-- A loop over neighbouring cuts: its windows are two cuts wide, and what is left are the cuts from the one at hand on.
use Rattle.std.proofs.Common.{◌≡◌, ℕ, suc, ◌-◌, ◌<◌, ◌≤◌, false, Bor, List, Option, Some, length, get_or, drop, sym, ap, ◌∙◌, arith}
use Rattle.std.proofs.lemmas.Iterator.{window_more}
use Rattle.std.specs.Slice.Iter.{windows_rest, windows_size, windows_steps}
use Rattle.std.specs.declared.slice.Windows.{Windows}
use Rattle.model.specs.declared.cut.Cut.{Cut}
use Rattle.model.specs.declared.job.Job.{Job}
use Rattle.theory.specs.Survey.{survey}
use Rattle.draw.proofs.Along.{Read, cuts_read}

-- what stands for a cut past the last
abbrev pub no_cut : Cut
no_cut = record { time = 0; upper = 0; lower = 0; rises = false; falls = false }

-- the number of the cut at hand
abbrev pub at : List Cut → Windows Cut → ℕ
at held s = length held - length (windows_rest s)

pub record Left (held : List Cut) (s : Windows Cut) : Type 0 where
  pub two : windows_size s ≡ 2
  pub some : 1 ≤ length (windows_rest s)
  pub fits : length (windows_rest s) ≤ length held
  pub rest : windows_rest s ≡ drop (at held s) held

pub left_all : {held : List Cut} {s : Windows Cut} → windows_rest s ≡ held → windows_size s ≡ 2 → 1 ≤ length held → Left held s × (at held s ≡ 0)
left_all {held} {s} e two l =
    let m = ap (λ (xs : List Cut). length xs) e in
    let z : at held s ≡ 0 = omega arith in
    (record { two = two; some = omega arith; fits = omega arith; rest = e ∙ ap (λ (k : ℕ). drop k held) (sym z) }, z)

-- a turn of the loop
module _ {held : List Cut} {s : Windows Cut} (left : Left held s) (t : Windows Cut) {r : Option (Bor (List Cut))} (steps : windows_steps s r t) where
  pub turn_read : {w : Bor (List Cut)} → r ≡ Some w → (jobs : List Job) → held ≡ survey jobs → Read jobs (at held s) (get_or w.now 0 no_cut).time (get_or w.now 1 no_cut).time
  turn_read {w} is jobs e =
      let two = left.two in
      let m = window_more held s t r w is steps (omega arith) left.fits left.rest in
      let k = m.2 in
      cuts_read jobs held e (at held s) (get_or w.now 0 no_cut) (get_or w.now 1 no_cut) no_cut (omega arith) (m.3 0 no_cut (omega arith)) (m.3 1 no_cut (omega arith))

  pub left_more : {w : Bor (List Cut)} → r ≡ Some w → Left held t × (suc (at held s) ≡ at held t)
  left_more {w} is =
      let two = left.two in
      let some = left.some in
      let fits = left.fits in
      let m = window_more held s t r w is steps (omega arith) left.fits left.rest in
      let k = m.2 in
      let n = m.0 in
      (record { two = steps.0 ∙ left.two; some = omega arith; fits = omega arith; rest = m.1 }, omega arith)

-- its end
pub left_end : {held : List Cut} {s : Windows Cut} → Left held s → length (windows_rest s) < windows_size s → length held ≤ suc (at held s)
left_end {held} {s} left l = let two = left.two in omega arith
