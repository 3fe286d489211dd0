-- Making a formula: its steps, and when its parameters are refused.
use Rattle.std.specs.Prelude.{ℕ, zero, suc, ◌+◌, ◌*◌, ◌%◌, Bool, not, ◌&&◌, List, [], ◌∷◌, ◌++◌, Option, ◌==◌, nat_le, nat_lt}
use Rattle.model.specs.Steps.{unit}
use Rattle.model.specs.declared.step.Step.{Step}
use Rattle.refusal.specs.Refusals.{Told, line, first_of}
use Rattle.processor.specs.Rules.{count_line}

-- step i of a formula: speed q × i, power c0 + c1 × i + c3 × i × i × i
abbrev pub formula_step : ℕ → ℕ → ℕ → ℕ → ℕ → Step
formula_step q c0 c1 c3 i = record { speed = q * i; power = c0 + c1 * i + c3 * i * i * i }

-- the steps of a formula
unfoldable pub formula_steps : ℕ → ℕ → ℕ → ℕ → ℕ → List Step
formula_steps zero q c0 c1 c3 = []
formula_steps (suc n) q c0 c1 c3 = formula_steps n q c0 c1 c3 ++ (formula_step q c0 c1 c3 n ∷ [])

-- whether a stride is a divisor of 5,040 up to 252
abbrev pub good_stride : ℕ → Bool
good_stride q = nat_le 1 q && (nat_le q 252 && unit % q == 0)

-- how the making of a formula is refused, or that it is not
abbrev pub formula_refusal : ℕ → ℕ → ℕ → ℕ → ℕ → Option Told
formula_refusal count q c0 c1 c3 =
    first_of
    (count_line count
    ∷ (line (not (good_stride q)) 6 0
    ∷ (line (nat_lt 100000 c0) 7 0
    ∷ (line (nat_lt 10000 c1) 7 1
    ∷ (line (nat_lt 200 c3) 7 3 ∷ [])))))
