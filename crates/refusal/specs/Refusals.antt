-- Refusals as their readers see them: a number and a detail; and tables of conditions, of which the first that holds is given.
use Rattle.std.specs.Prelude.{ℕ, Bool, cond, List, [], ◌∷◌, ◌++◌, Some, None, Ok, Err, codes, decimal, Option, Result}
use Rattle.refusal.specs.declared.term.Term.{Term}
use Rattle.refusal.specs.declared.term.Term.TheVariants.{Constant, Linear, Cubic}
use Rattle.refusal.specs.declared.refusal.Refusal.{Refusal}
use Rattle.refusal.specs.declared.refusal.Refusal.TheVariants.{Count, Speed, Power, Gap, Bend, Stride, Coefficient, Held, Full, Times, Work, Account, Order, Bare, Slip, Want, Price, Room, Limit, Segments, Lacking, Repeated, Ticks, Frame, Ended, Malformed, Kind, Surplus, Past}

-- what a refusal tells: its number, and its detail, 0 where there is none
pub record Told : Type 0 where
  pub number : ℕ
  pub detail : ℕ

abbrev pub told : ℕ → ℕ → Told
told n d = record { number = n; detail = d }

-- a coefficient by the exponent of the step's number
abbrev pub exponent : Term → ℕ
exponent Constant = 0
exponent Linear = 1
exponent Cubic = 3

-- each case's number and detail
abbrev pub told_of : Refusal → Told
told_of Count = told 1 0
told_of (Speed i) = told 2 i
told_of (Power i) = told 3 i
told_of (Gap i) = told 4 i
told_of (Bend i) = told 5 i
told_of Stride = told 6 0
told_of (Coefficient t) = told 7 (exponent t)
told_of Held = told 8 0
told_of Full = told 9 0
told_of Times = told 10 0
told_of Work = told 11 0
told_of Account = told 12 0
told_of Order = told 13 0
told_of Bare = told 14 0
told_of Slip = told 15 0
told_of (Want j) = told 16 j
told_of Price = told 17 0
told_of (Room n) = told 18 n
told_of Limit = told 19 0
told_of Segments = told 20 0
told_of Lacking = told 21 0
told_of Repeated = told 22 0
told_of Ticks = told 23 0
told_of (Frame n) = told 24 n
told_of Ended = told 25 0
told_of Malformed = told 26 0
told_of Kind = told 27 0
told_of Surplus = told 28 0
told_of Past = told 29 0

-- the number, and the detail in brackets
abbrev pub told_text : Told → List ℕ
told_text t = decimal t.number ++ (codes " (" ++ (decimal t.detail ++ codes ")"))

-- what a call's answer tells: nothing where it was accepted
abbrev pub outcome : {X : Type 0} → Result X Refusal → Option Told
outcome (Ok x) = None
outcome (Err e) = Some (told_of e)

-- one line of a call's table: a condition, and the number and detail that it is refused with
pub record Line : Type 0 where
  pub holds : Bool
  pub number : ℕ
  pub detail : ℕ

abbrev pub line : Bool → ℕ → ℕ → Line
line b n d = record { holds = b; number = n; detail = d }

-- the first line whose condition holds
abbrev pub first_of : List Line → Option Told
first_of [] = None
first_of (l ∷ ls) = cond l.holds (Some (told l.number l.detail)) (first_of ls)
