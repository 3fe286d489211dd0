-- A job that the table does not refuse may stand at the end.
use Rattle.std.proofs.Common.{◌≡◌, ◌<◌, true, false, not, leb, List, [], ◌∷◌, ◌++◌, length, is_some, None, Option, sym, ap}
use Rattle.std.proofs.lemmas.Bool.{and_from, not-false, leb-false}
use Rattle.model.specs.declared.job.Job.{Job}
use Rattle.refusal.specs.Refusals.{Told, line, first_of}
use Rattle.refusal.proofs.Lines.{first_clear}
use Rattle.queue.specs.Queues.{good_times, good_work, good_account, follows, last_of, fit, push_lines, standing}
use Rattle.queue.proofs.Order.{standing_push}

pub record Admitted (jobs : List Job) (j : Job) : Type 0 where
  pub room : length jobs < 256
  pub fits : fit j ≡ true
  pub after : follows (last_of jobs) j ≡ true

pub admitted : (jobs : List Job) (j : Job) → None ≡ first_of (push_lines jobs j) → Admitted jobs j
admitted jobs j n =
    let e : is_some (first_of (push_lines jobs j)) ≡ false = ap (λ (o : Option Told). is_some o) (sym n) in
    let l5 = line (not (follows (last_of jobs) j)) 13 0 ∷ [] in
    let l4 = line (not (good_account j)) 12 0 ∷ l5 in
    let l3 = line (not (good_work j)) 11 0 ∷ l4 in
    let l2 = line (not (good_times j)) 10 0 ∷ l3 in
    let (e1, d1) = first_clear (line (leb 256 (length jobs)) 9 0) l2 e in
    let (e2, d2) = first_clear (line (not (good_times j)) 10 0) l3 d1 in
    let (e3, d3) = first_clear (line (not (good_work j)) 11 0) l4 d2 in
    let (e4, d4) = first_clear (line (not (good_account j)) 12 0) l5 d3 in
    let (e5, d5) = first_clear (line (not (follows (last_of jobs) j)) 13 0) [] d4 in
    record {
      room = leb-false _ _ e1;
      fits = and_from _ _ (not-false _ e2) (and_from _ _ (not-false _ e3) (not-false _ e4));
      after = not-false _ e5;
    }

-- and the queue stands with it
pub standing_with : (jobs : List Job) (j : Job) → standing jobs ≡ true → Admitted jobs j → standing (jobs ++ (j ∷ [])) ≡ true
standing_with jobs j e a = standing_push jobs j e a.fits a.after
