use Rattle.std.proofs.Common.{◌≡◌, ℕ, ◌+◌, cond, length, take, ltb, true, false, Some, None, ap, ◌∙◌, rules}
use Rattle.std.proofs.lemmas.Iterator.{first_from_Range}
use Rattle.processor.specs.Rules.{odd_last, first_odd, odd_step}
use Rattle.processor.proofs.Found.{found}
use Rattle.processor.proofs.Front.{found_in_front}
use Rattle.processor.proofs.rule.Rule.first_odd.Goals as goal

pub returns : goal.returns
unfolding odd_step first_odd
returns c =
    let s = c.args.steps.now in
    found (length s) (λ k. odd_last c.args.self (take (k + 1) s)) c.find.result
    (first_from_Range _ _ _ c.find.result (λ k. true ≡ odd_last c.args.self (take (k + 1) s)) (λ k. false ≡ odd_last c.args.self (take (k + 1) s))
    c.find.ensures.ran (λ x q k. search rules) (λ x q k. search rules))
    ∙ ap (λ (n : ℕ). cond (ltb n (length s)) (Some n) None) (found_in_front c.args.self s)
