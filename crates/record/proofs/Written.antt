-- A record written: the answer, and what the frame then reads as.
use Rattle.std.proofs.Common.{◌≡◌, ℕ, ◌<◌, ◌≤◌, List, [], length, take, drop, None, Ok, Err, Result, ap, ◌∙◌, arith}
use Rattle.frame.specs.Laid.{laid}
use Rattle.model.specs.declared.segment.Segment.{Segment}
use Rattle.refusal.specs.Refusals.{Told, told}
use Rattle.std.proofs.lemmas.Bool.Decides.{nat_tests}
use Rattle.record.specs.Got.{got}
use Rattle.record.specs.Reading.{read_record}
use Rattle.record.specs.Writing.{record_bytes, faults, passed, fitted, write_answer}
use Rattle.record.proofs.Back.{record_back, laid_back}
use Rattle.record.proofs.Measured.{passed_ok}

-- a plan without fault, and how many bytes its record takes
pub record Sized (kind steps n : ℕ) (segs : List Segment) : Type 0 where
  pub long : n ≡ length (record_bytes kind segs)
  pub some : 0 < n
  pub passes : (r : Result ℕ Told) → passed steps segs r ≡ r
  pub few : length segs ≤ 1024
  pub faultless : faults steps steps 0 segs ≡ None

pub sized : (kind : ℕ) {steps steps' n : ℕ} {segs : List Segment} → steps' ≡ steps → Ok n ≡ passed steps' segs (Ok (length (record_bytes 0 segs))) → Sized kind steps n segs
unfolding record_bytes
sized kind {steps} {steps'} {n} {segs} q e =
    let o = passed_ok steps n (length (record_bytes 0 segs)) segs (e ∙ ap (λ (x : ℕ). passed x segs (Ok (length (record_bytes 0 segs)))) q) in
    record { long = o.0; some = omega (arith, o.0); passes = o.1; few = o.2; faultless = o.3 }

-- there is too little room
pub answer_short : {kind steps n room : ℕ} {segs : List Segment} → Sized kind steps n segs → room < n → Err (told 24 n) ≡ write_answer kind steps segs room
answer_short {kind} {steps} {n} {room} {segs} w l =
    let e = w.passes (fitted room (length (record_bytes kind segs))) in grind (arith, nat_tests)

-- there is room
pub answer_fits : {kind steps n room : ℕ} {segs : List Segment} → Sized kind steps n segs → n ≤ room → Ok n ≡ write_answer kind steps segs room
answer_fits {kind} {steps} {n} {room} {segs} w l =
    let e = w.passes (fitted room (length (record_bytes kind segs))) in grind (arith, nat_tests)

-- the record reads as what was written
pub written_back : (kind' : ℕ) (frame : List ℕ) {kind steps n offset room : ℕ} {segs : List Segment} {now : List ℕ} → Sized kind steps n segs → steps ≤ 16
    → offset ≤ length frame → now ≡ laid offset (record_bytes kind' segs) frame → kind' ≡ kind → length segs ≤ room
    → read_record kind steps room (take n (drop offset now)) ≡ got segs []
written_back kind' frame {kind} {steps} {n} {offset} {room} {segs} {now} w h l f q m =
    ap (λ (xs : List ℕ). read_record kind steps room (take n (drop offset xs))) (f ∙ ap (λ (k : ℕ). laid offset (record_bytes k segs) frame) q)
    ∙ ap (λ (xs : List ℕ). read_record kind steps room xs) (laid_back offset n (record_bytes kind segs) frame l w.long)
    ∙ record_back kind steps room segs h w.few m w.faultless
