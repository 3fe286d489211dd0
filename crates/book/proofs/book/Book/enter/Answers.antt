use Rattle.std.proofs.Common.{sym, ◌∙◌}
use Rattle.book.specs.Books.{state}
use Rattle.queue.specs.Meaning.{jobs_of}
use Rattle.book.proofs.Entering.{enter_open, enter_put}
use Rattle.book.proofs.book.Book.enter.Goals as goal

pub returns-then-is_some : goal.returns-then-is_some
returns-then-is_some c =
    let p = enter_open (state c.args.self.now) c.args.job (sym c.is_some.ensures ∙ c.if-is_some.true) in
    record { answer = p.answers; state = p.becoming; sound = p.sounds }

pub returns : goal.returns
returns c =
    let p =
    enter_put (state c.args.self.now) c.args.job c.push.result (jobs_of c.push.new.self) (sym c.is_some.ensures ∙ c.if-is_some.false) c.push.ensures.answer c.push.ensures.after
    in
    record { answer = p.answers; state = p.becoming; sound = p.sounds }
