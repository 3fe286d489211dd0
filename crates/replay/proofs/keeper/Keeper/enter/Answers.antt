use Rattle.std.proofs.Common.{sym, ◌∙◌}
use Rattle.book.specs.Books.{state}
use Rattle.book.specs.Calls.Call.{enters}
use Rattle.book.proofs.Entering.{enter_open}
use Rattle.replay.proofs.Calls.{number_stays}
use Rattle.replay.proofs.Keeping.{fits_on}
use Rattle.replay.proofs.keeper.Keeper.enter.Goals as goal

pub invariant_of-self : goal.invariant_of-self
invariant_of-self c =
    let k = c.args.self.now in
    let e = c.enter.ensures.state in
    record {
      numbered = number_stays _ _ (enters c.args.job) e ∙ k.numbered;
      spendable = fits_on _ _ k.slip k.spendable (λ h. e ∙ sym (enter_open (state k.book) c.args.job h).becoming);
    }
