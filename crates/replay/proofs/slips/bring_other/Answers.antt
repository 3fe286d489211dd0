use Rattle.std.proofs.Common.{◌≡◌, ℕ, sym, ap, ◌∙◌}
use Rattle.book.specs.Calls.{State, Call, new, after}
use Rattle.replay.proofs.Calls.{number_stays}
use Rattle.replay.proofs.slips.bring_other.Goals as goal

-- the slip of a hold on a new book bears its number
borne : (x n : ℕ) (s t : State) (c : Call) → s ≡ new n → t ≡ after s c → x ≡ t.number → x ≡ n
borne x n s t c e f g = g ∙ (number_stays s t c f ∙ ap (λ (u : State). u.number) e)

pub returns-in-Ok-bring-clause-foreign : goal.returns-in-Ok-bring-clause-foreign
returns-in-Ok-bring-clause-foreign c h =
    c.bring.ensures.foreign (λ e. h (sym (borne _ c.args.number _ _ _ c.in_ok-other.ensures c.in-Ok.ensures.state c.in-Ok.ensures.opens.0) ∙ e))

pub returns-in-Ok-release-clause-foreign : goal.returns-in-Ok-release-clause-foreign
returns-in-Ok-release-clause-foreign c h =
    c.bring.ensures.foreign (λ e. h (sym (borne _ c.args.number _ _ _ c.in_ok-other.ensures c.in-Ok.ensures.state c.in-Ok.ensures.opens.0) ∙ e))
