-- What a pen writes.
use Rattle.std.specs.Prelude.{◌≡◌, ℕ, ◌+◌, List, length}
use Rattle.frame.specs.Laid.{laid}
use Rattle.text.specs.declared.pen.Pen.{Pen}

-- a pen wrote bytes at its place, and stands behind them; the buffer is the same one
pub record Wrote (before after : Pen) (bytes : List ℕ) : Type 0 where
  pub same : after.out.ghost_name ≡ before.out.ghost_name
  pub size : length after.out.now ≡ length before.out.now
  pub place : after.at ≡ before.at + length bytes
  pub buffer : after.out.now ≡ laid before.at bytes before.out.now
