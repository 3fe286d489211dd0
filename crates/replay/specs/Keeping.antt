-- When a slip that is kept beside a book can be spent there.
use Rattle.std.specs.Prelude.{Bool, true, ◌&&◌, ◌==◌, is_some, Some, None, Option}
use Rattle.book.specs.Calls.{State}
use Rattle.book.specs.declared.slip.Slip.{Slip}

-- where a slip is kept, the book's hold is open and the slip bears the book's number
abbrev pub fits : State → Option Slip → Bool
fits s None = true
fits s (Some slip) = is_some s.held && slip.book == s.number
