-- Numbers as text: what bytes begin with reads as a number of at most ten digits, or does not.
use Rattle.std.specs.Prelude.{◌≡◌, ℕ, ◌<◌, List, [], ◌∷◌, ◌++◌, decimal}
use Rattle.std.specs.Int.{IsInRange}

-- the numbers of at most ten digits are below this
abbrev pub ten_digits : ℕ
ten_digits = 10000000000

-- bytes that do not begin with a digit
abbrev pub Stops : List ℕ → Type 0
Stops [] = Unit {0}
Stops (b ∷ bs) = IsInRange 48 57 b → ⊥

-- bytes begin with the text of a number of at most ten digits, which no digit follows
pub record Begins (bytes : List ℕ) (n : ℕ) (rest : List ℕ) : Type 0 where
  pub few : n < ten_digits
  pub text : bytes ≡ decimal n ++ rest
  pub stops : Stops rest

-- bytes begin with no such number
abbrev pub BeginsNone : List ℕ → Type 0
BeginsNone bytes = (n : ℕ) (rest : List ℕ) → Begins bytes n rest → ⊥
