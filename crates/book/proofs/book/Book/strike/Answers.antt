use Rattle.std.proofs.Common.{sym, ◌∙◌}
use Rattle.book.specs.Books.{state}
use Rattle.queue.specs.Meaning.{jobs_of}
use Rattle.book.proofs.Entering.{strike_open, strike_bare, strike_last}
use Rattle.book.proofs.book.Book.strike.Goals as goal

pub returns-then-is_some : goal.returns-then-is_some
returns-then-is_some c =
    let p = strike_open (state c.args.self.now) (sym c.is_some.ensures ∙ c.if-is_some.true) in
    record { answer = p.answers; state = p.becoming; sound = p.sounds }

pub returns-then-len-eq0 : goal.returns-then-len-eq0
returns-then-len-eq0 c =
    let p = strike_bare (state c.args.self.now) (sym c.is_some.ensures ∙ c.if-is_some.false) (sym c.len.ensures ∙ c.if-len-eq0.true) in
    record { answer = p.answers; state = p.becoming; sound = p.sounds }

pub returns : goal.returns
returns c =
    let p =
    strike_last (state c.args.self.now) (jobs_of c.pop.new.self) (sym c.is_some.ensures ∙ c.if-is_some.false) (λ e. c.if-len-eq0.false (c.len.ensures ∙ e)) c.pop.ensures
    in
    record { answer = p.answers; state = p.becoming; sound = p.sounds }
