use Rattle.std.proofs.Common.{Err, refl, ap, ◌∙◌}
use Rattle.std.proofs.lemmas.Result.{err_from_is_err_and}
use Rattle.book.specs.Books.{state, said_back}
use Rattle.book.proofs.Entering.{release_stopped, release_spent}
use Rattle.book.proofs.Promises.{Step}
use Rattle.book.specs.Calls.Call.{releases}
use Rattle.book.specs.Calls.Answer.{refused}
use Rattle.refusal.specs.Refusals.{told}
use Rattle.book.proofs.book.Book.release.Goals as goal

-- a slip that is refused
stopped : (c : goal.After-from_residual) → Step (state c.args.self.now) (state c.spend.new.self) (releases c.args.slip.book) (refused (told 15 0))
stopped c = let e = c.in_err-spend.ensures.stopped in release_stopped (state c.args.self.now) (state c.spend.new.self) c.args.slip.book (ap state e.1) e.2

pub returns-in_err-spend-clause-answer : goal.returns-in_err-spend-clause-answer
returns-in_err-spend-clause-answer c =
    let y = err_from_is_err_and c.from_residual.result c.from_residual.ensures.1 in
    let e = c.in_err-spend.ensures.stopped in
    ap said_back (y.1 ∙ ap Err (y.2 ∙ e.0)) ∙ (stopped c).answers

pub returns-in_err-spend-clause-state : goal.returns-in_err-spend-clause-state
returns-in_err-spend-clause-state c = (stopped c).becoming

pub returns-in_err-spend-clause-sound : goal.returns-in_err-spend-clause-sound
returns-in_err-spend-clause-sound c = (stopped c).sounds

pub returns : goal.returns
returns c =
    let e = c.in_ok-spend.ensures.spent in
    let p = release_spent (state c.args.self.now) (state c.spend.new.self) c.args.slip.book _ e in
    record { answer = p.answers; back = tt; state = p.becoming; spends = λ h k. refl; sound = p.sounds }
