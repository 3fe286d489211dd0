-- What comes of reading bytes: a value and the bytes after it, or a refusal.
use Rattle.std.specs.Prelude.{ℕ, List, ◌++◌, length, drop, Ok, Err, Result}
use Rattle.refusal.specs.Refusals.{Told, told, told_of}
use Rattle.refusal.specs.declared.refusal.Refusal.{Refusal}

-- a value and what is left, or what a refusal tells
pub data Got (X : Type 0) : Type 0 where
  got : X → List ℕ → Got X
  refused : Told → Got X

-- refused by this number, with no detail
abbrev pub refuse : {X : Type 0} → ℕ → Got X
refuse n = refused (told n 0)

-- one reading after another: the second goes on from the bytes that the first left
abbrev pub after : {X Y : Type 0} → Got X → (X → List ℕ → Got Y) → Got Y
after (got x rest) f = f x rest
after (refused t) f = refused t

-- what code that reads bytes answers, with the bytes that it leaves: a value, or a refusal
abbrev pub seen : {X : Type 0} → List ℕ → Result X Refusal → Got X
seen rest (Ok x) = got x rest
seen rest (Err e) = refused (told_of e)

-- a call's answer, with what its refusal tells
abbrev pub reply : {X : Type 0} → Result X Refusal → Result X Told
reply (Ok x) = Ok x
reply (Err e) = Err (told_of e)

-- how many were read, or the refusal
abbrev pub counted : {X : Type 0} → Got (List X) → Result ℕ Told
counted (got xs rest) = Ok (length xs)
counted (refused t) = Err t

-- a buffer after what was read is put at its start, the same where reading was refused
abbrev pub filled : {X : Type 0} → Got (List X) → List X → List X
filled (got xs rest) buffer = xs ++ drop (length xs) buffer
filled (refused t) buffer = buffer
