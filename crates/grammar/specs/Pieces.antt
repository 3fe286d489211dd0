-- Bytes parted by a separator: lines by byte 10, words by a space.
use Rattle.std.specs.Prelude.{◌≡◌, ℕ, ◌+◌, ◌-◌, ◌<◌, ◌≤◌, cond, List, [], ◌∷◌, length, take, drop, Some, None, Option, ◌==◌}

-- the byte that ends a line, and the one that parts words
abbrev pub line_feed : ℕ
line_feed = 10

abbrev pub space : ℕ
space = 32

-- a byte before the first piece
abbrev pub led : ℕ → List (List ℕ) → List (List ℕ)
led b [] = (b ∷ []) ∷ []
led b (p ∷ ps) = (b ∷ p) ∷ ps

-- what stands between separators: one piece more than there are separators
unfoldable pub pieces : ℕ → List ℕ → List (List ℕ)
pieces s [] = [] ∷ []
pieces s (b ∷ bs) = cond (b == s) ([] ∷ pieces s bs) (led b (pieces s bs))

-- the lines of a sheet, each without the byte that ends it; last what stands after the last of these bytes, which is no line
abbrev pub lines : List ℕ → List (List ℕ)
lines bytes = pieces line_feed bytes

-- the words of a line
abbrev pub words : List ℕ → List (List ℕ)
words text = pieces space text

-- where the line that begins at a place ends, or that no line begins there
abbrev pub LineAt : List ℕ → ℕ → Option ℕ → Type 0
LineAt bytes at (Some end) =
    (at ≤ end) × (end < length bytes) × (lines (drop at bytes) ≡ take (end - at) (drop at bytes) ∷ lines (drop (end + 1) bytes))
LineAt bytes at None = lines (drop at bytes) ≡ drop at bytes ∷ []
