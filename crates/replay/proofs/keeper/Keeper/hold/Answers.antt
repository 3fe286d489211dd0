use Rattle.std.proofs.Common.{◌≡◌, true, Option, sym, ◌∙◌, subst}
use Rattle.book.specs.Books.{state}
use Rattle.book.specs.Calls.Call.{holds}
use Rattle.book.specs.declared.slip.Slip.{Slip}
use Rattle.book.proofs.Pricing.{hold_open}
use Rattle.replay.specs.Keeping.{fits}
use Rattle.replay.proofs.Calls.{number_stays}
use Rattle.replay.proofs.Keeping.{open_where_kept, fits_on, fits_new}
use Rattle.replay.proofs.keeper.Keeper.hold.Goals as goal

pub invariant_of-self : goal.invariant_of-self
invariant_of-self g c =
    let k = c.args.self.now in
    let e = c.hold.ensures.state in
    let steps = g.P.Processor.steps c.args.processor.now in
    record {
      numbered = number_stays _ _ (holds c.args.job steps) e ∙ k.numbered;
      spendable = fits_on _ _ k.slip k.spendable (λ h. e ∙ sym (hold_open (state k.book) c.args.job steps (g.met.P.Processor.lawful c.args.processor.now) h).becoming);
    }

pub invariant_of-self-2 : goal.invariant_of-self-2
invariant_of-self-2 g c =
    let k = c.args.self.now in
    let e = c.in_ok-slip.ensures.state in
    let steps = g.P.Processor.steps c.args.processor.now in
    record {
      numbered = number_stays _ _ (holds c.args.job steps) e ∙ k.numbered;
      spendable =
          subst (λ (o : Option Slip). fits (state c.hold.new.self) o ≡ true) (sym c.replace.ensures.after)
          (fits_new (state c.hold.new.self) c.in_ok-slip.slip c.in_ok-slip.ensures.opens);
    }

pub unreachable-requires : goal.unreachable-requires
unreachable-requires g c =
    let k = c.args.self.now in
    let steps = g.P.Processor.steps c.args.processor.now in
    let f = subst (λ (o : Option Slip). fits (state k.book) o ≡ true) (sym c.replace.ensures.value ∙ c.in-Some.is) k.spendable in
    let h = open_where_kept (state k.book) c.in-Some._before f in
    let p = (hold_open (state k.book) c.args.job steps (g.met.P.Processor.lawful c.args.processor.now) h).answers in
    let q = c.in_ok-slip.ensures.answer in
    cc
