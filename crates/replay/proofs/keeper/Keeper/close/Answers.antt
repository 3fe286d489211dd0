use Rattle.std.proofs.Common.{sym, ◌∙◌}
use Rattle.book.specs.Books.{state}
use Rattle.book.specs.Calls.Call.{closes}
use Rattle.book.proofs.Charging.{close_open}
use Rattle.replay.proofs.Calls.{number_stays}
use Rattle.replay.proofs.Keeping.{fits_on}
use Rattle.replay.proofs.keeper.Keeper.close.Goals as goal

pub invariant_of-self : goal.invariant_of-self
invariant_of-self g c =
    let k = c.args.self.now in
    let e = c.close.ensures.state in
    let steps = g.P.Processor.steps c.args.processor.now in
    record {
      numbered = number_stays _ _ (closes steps) e ∙ k.numbered;
      spendable = fits_on _ _ k.slip k.spendable (λ h. e ∙ sym (close_open (state k.book) steps (g.met.P.Processor.lawful c.args.processor.now) h).becoming);
    }
