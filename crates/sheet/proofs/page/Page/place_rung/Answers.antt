use Rattle.std.proofs.Common.{◌≡◌, Ok, Some, MatchResult, rules}
use Rattle.refusal.specs.Refusals.{told}
use Rattle.sheet.specs.Answers.{fault_outcome}
use Rattle.sheet.proofs.Taking.{seen, rung_late, rung_told}
use Rattle.sheet.proofs.page.Page.place_rung.Goals as goal

pub returns-in_default : goal.returns-in_default
returns-in_default c = record {
  answer = rung_late c.self.inside c.args.self.now c.args.step c.args.line (seen c.self.invariant c.self.view_is) c.requires c.in_default.not-Rungs;
  after = tt;
}

pub returns-clause-answer : goal.returns-clause-answer
returns-clause-answer c =
    let f : MatchResult c.try_push.result (λ x. c.map_err.result ≡ Ok x) (λ _. fault_outcome c.map_err.result ≡ Some (told 30 c.args.line)) = search rules in
    rung_told c.self.inside c.args.self.now c.args.step c.args.line c.try_push.result c.map_err.result (seen c.self.invariant c.self.view_is) c.requires c.in-Rungs.is c.try_push.ensures.variant c.try_push.ensures.full f
