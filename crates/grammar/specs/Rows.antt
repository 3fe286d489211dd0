-- Rows: what the words of a line say, and the text of a row.
use Rattle.std.specs.Prelude.{◌≡◌, ℕ, ◌<◌, Bool, cond, not, ◌&&◌, ◌||◌, List, [], ◌∷◌, ◌++◌, length, Some, None, decimal, Option, ◌==◌, ◌≢◌, nat_le, slice_index}
use Rattle.std.specs.Str.Parse.{digits_value}
use Rattle.std.specs.Str.{all_ascii_digits}
use Rattle.text.specs.Numerals.{ten_digits}
use Rattle.grammar.specs.Pieces.{space, words}
use Rattle.grammar.specs.declared.row.Row.{Row}
use Rattle.grammar.specs.declared.row.Row.TheVariants.{Rung, Task, Draw}

-- plain decimal: one to ten digits, and no needless zero before them
abbrev pub plain : List ℕ → Bool
plain w = all_ascii_digits w && (nat_le 1 (length w) && (nat_le (length w) 10 && (not (slice_index w 0 == 48) || length w == 1)))

-- a word as a number
unfoldable pub number_of : List ℕ → Option ℕ
number_of w = cond (plain w) (Some (digits_value 10 w)) None

-- a number before others, where all are numbers
abbrev pub joins : Option ℕ → Option (List ℕ) → Option (List ℕ)
joins None o = None
joins (Some n) None = None
joins (Some n) (Some ns) = Some (n ∷ ns)

-- words as numbers, where each is one
unfoldable pub numbers : List (List ℕ) → Option (List ℕ)
numbers [] = Some []
numbers (w ∷ ws) = joins (number_of w) (numbers ws)

-- a word of one letter
abbrev pub letter : ℕ → List ℕ → Bool
letter c w = length w == 1 && slice_index w 0 == c

-- T with a speed and a power, J with an arrival, a deadline, a work and an account, P alone
abbrev pub rung : List ℕ → Row
rung ns = Rung (record { speed = slice_index ns 0; power = slice_index ns 1 })

abbrev pub task : List ℕ → Row
task ns = Task (record { arrival = slice_index ns 0; deadline = slice_index ns 1; work = slice_index ns 2; account = slice_index ns 3 })

-- a row of so many numbers
abbrev pub of_numbers : ℕ → (List ℕ → Row) → Option (List ℕ) → Option Row
of_numbers n f None = None
of_numbers n f (Some ns) = cond (length ns == n) (Some (f ns)) None

-- what a letter and the words after it say
unfoldable pub says : List ℕ → List (List ℕ) → Option Row
says w ws =
    cond (letter 84 w) (of_numbers 2 rung (numbers ws))
    (cond (letter 74 w) (of_numbers 4 task (numbers ws)) (cond (letter 80 w) (of_numbers 0 (λ _. Draw) (numbers ws)) None))

-- what the words of a line say
abbrev pub by_words : List (List ℕ) → Option Row
by_words [] = None
by_words (w ∷ ws) = says w ws

-- what a line says, if it is well formed
unfoldable pub row_of : List ℕ → Option Row
row_of text = by_words (words text)

-- numbers as text, each with a space before it
unfoldable pub fields : List ℕ → List ℕ
fields [] = []
fields (n ∷ ns) = space ∷ (decimal n ++ fields ns)

-- the letter and the numbers of a row
abbrev pub letter_of : Row → ℕ
letter_of (Rung s) = 84
letter_of (Task j) = 74
letter_of Draw = 80

abbrev pub numbers_of : Row → List ℕ
numbers_of (Rung s) = s.speed ∷ (s.power ∷ [])
numbers_of (Task j) = j.arrival ∷ (j.deadline ∷ (j.work ∷ (j.account ∷ [])))
numbers_of Draw = []

-- the text of a row
abbrev pub row_text : Row → List ℕ
row_text r = letter_of r ∷ fields (numbers_of r)

-- numbers of at most ten digits
abbrev pub Small : List ℕ → Type 0
Small [] = Unit {0}
Small (n ∷ ns) = (n < ten_digits) × Small ns

-- what was read of a line is exactly the row whose text it is
abbrev pub Exactly : List ℕ → Option Row → Type 0
Exactly text (Some r) = (text ≡ row_text r) × Small (numbers_of r)
Exactly text None = (r : Row) → Small (numbers_of r) → text ≢ row_text r

-- so many numbers that were read of what follows the letter, or that so many do not stand there
abbrev pub Fields : ℕ → List ℕ → Option (List ℕ) → Type 0
Fields n text (Some ns) = (length ns ≡ n) × (text ≡ fields ns) × Small ns
Fields n text None = (ms : List ℕ) → length ms ≡ n → Small ms → text ≢ fields ms
