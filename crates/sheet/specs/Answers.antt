-- The answers of reading a sheet: each fault's number and line, and what the output buffer then holds.
use Rattle.std.specs.Prelude.{◌≡◌, ℕ, ◌<◌, ◌≤◌, List, ◌++◌, length, drop, Some, None, Ok, Err, Option, Result}
use Rattle.refusal.specs.Refusals.{Told, told, told_of, first_of}
use Rattle.refusal.specs.declared.refusal.Refusal.{Refusal}
use Rattle.sheet.specs.Sheets.{sheet_table, said}
use Rattle.print.specs.Texts.{plan_text, refused_text}
use Rattle.sheet.specs.declared.fault.Fault.{Fault}
use Rattle.sheet.specs.declared.fault.Fault.TheVariants.{Bytes, Room, Long, Malformed, Refused}

-- each fault's number and line
abbrev pub fault_told : Fault → Told
fault_told Bytes = told 33 0
fault_told Room = told 24 0
fault_told (Long n) = told 31 n
fault_told (Malformed n) = told 30 n
fault_told (Refused n) = told 32 n

-- what a call's answer tells: nothing where it was accepted
abbrev pub fault_outcome : {X : Type 0} → Result X Fault → Option Told
fault_outcome (Ok x) = None
fault_outcome (Err e) = Some (fault_told e)

-- an answer with what its fault tells
abbrev pub fault_reply : {X : Type 0} → Result X Fault → Result X Told
fault_reply (Ok x) = Ok x
fault_reply (Err e) = Err (fault_told e)

-- the text of the plan of what a sheet says
abbrev pub drawn_text : List ℕ → List ℕ
drawn_text bytes = plan_text (said bytes).steps (said bytes).jobs

-- how long that text is, or the first refusal of the sheet's table
abbrev pub length_unless : Option Told → List ℕ → Result ℕ Told
length_unless (Some t) text = Err t
length_unless None text = Ok (length text)

abbrev pub sheet_answer : ℕ → List ℕ → Result ℕ Told
sheet_answer size bytes = length_unless (first_of (sheet_table size bytes)) (drawn_text bytes)

-- text at the start of a buffer, unless there is a refusal
abbrev pub filled_unless : Option Told → List ℕ → List ℕ → List ℕ
filled_unless (Some t) text buffer = buffer
filled_unless None text buffer = text ++ drop (length text) buffer

abbrev pub sheet_filled : List ℕ → List ℕ → List ℕ
sheet_filled bytes buffer = filled_unless (first_of (sheet_table (length buffer) bytes)) (drawn_text bytes) buffer

-- what the plan program prints: the plan, or the refused line
abbrev pub text_or : Option Told → List ℕ → List ℕ
text_or (Some t) text = refused_text t
text_or None text = text

unfoldable pub printed : ℕ → List ℕ → List ℕ
printed size bytes = text_or (first_of (sheet_table size bytes)) (drawn_text bytes)

-- a text that is written from a buffer's start where it has room there; refused otherwise, with the bytes that it takes
abbrev pub fitting : List ℕ → List ℕ → List ℕ → Result ℕ Refusal → Type 0
fitting text entry exit (Ok n) = (length text ≤ length entry) × (n ≡ length text) × (exit ≡ text ++ drop (length text) entry)
fitting text entry exit (Err e) = (length entry < length text) × (told_of e ≡ told 24 (length text)) × (exit ≡ entry)

-- a text of so many bytes is written from a buffer's start, or nothing is
pub record Prints (text entry exit : List ℕ) (n : ℕ) : Type 0 where
  pub nothing : n ≡ 0 → exit ≡ entry
  pub something : 0 < n → (n ≡ length text) × (exit ≡ text ++ drop (length text) entry)
