-- Bytes laid over a frame.
use Rattle.std.specs.Prelude.{ℕ, ◌+◌, List, ◌++◌, length, take, drop}

-- bytes laid over others from a place on
abbrev pub laid : ℕ → List ℕ → List ℕ → List ℕ
laid at bytes frame = take at frame ++ (bytes ++ drop (at + length bytes) frame)
