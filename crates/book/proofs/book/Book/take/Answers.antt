use Rattle.std.proofs.Common.{Err, refl, ap, ◌∙◌}
use Rattle.std.proofs.lemmas.Result.{err_from_is_err_and}
use Rattle.queue.specs.Meaning.{jobs_of}
use Rattle.book.specs.Books.{state, said_back}
use Rattle.book.proofs.Entering.{take_stopped, take_spent}
use Rattle.book.proofs.Promises.{Step}
use Rattle.book.specs.Calls.Call.{takes}
use Rattle.book.specs.Calls.Answer.{refused}
use Rattle.refusal.specs.Refusals.{told}
use Rattle.book.proofs.book.Book.take.Goals as goal

-- a slip that is refused
stopped : (c : goal.After-from_residual) → Step (state c.args.self.now) (state c.spend.new.self) (takes c.args.slip.book) (refused (told 15 0))
stopped c = let e = c.in_err-job.ensures.stopped in take_stopped (state c.args.self.now) (state c.spend.new.self) c.args.slip.book (ap state e.1) e.2

pub returns-in_err-job-clause-answer : goal.returns-in_err-job-clause-answer
returns-in_err-job-clause-answer c =
    let y = err_from_is_err_and c.from_residual.result c.from_residual.ensures.1 in
    let e = c.in_err-job.ensures.stopped in
    ap said_back (y.1 ∙ ap Err (y.2 ∙ e.0)) ∙ (stopped c).answers

pub returns-in_err-job-clause-state : goal.returns-in_err-job-clause-state
returns-in_err-job-clause-state c = (stopped c).becoming

pub returns-in_err-job-clause-sound : goal.returns-in_err-job-clause-sound
returns-in_err-job-clause-sound c = (stopped c).sounds

pub returns : goal.returns
returns c =
    let e = c.in_ok-job.ensures.spent in
    let p = take_spent (state c.args.self.now) (state c.spend.new.self) (jobs_of c.push.new.self) c.args.slip.book c.in_ok-job.job e c.in-Ok.ensures.after in
    record { answer = p.answers; back = tt; state = p.becoming; spends = λ h k. refl; sound = p.sounds }
