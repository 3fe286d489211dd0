-- What a book means as a state, what its answers mean, and what each call promises of every list of calls.
use Rattle.std.specs.Prelude.{◌≡◌, ℕ, List, [], ◌∷◌, ◌++◌, Ok, Err, Result}
use Rattle.model.specs.declared.segment.Segment.{Segment}
use Rattle.charges.specs.Rows.{rows_of}
use Rattle.planner.specs.declared.plan.Planned.{Planned}
use Rattle.queue.specs.Meaning.{jobs_of}
use Rattle.refusal.specs.Refusals.{told_of}
use Rattle.refusal.specs.declared.refusal.Refusal.{Refusal}
use Rattle.book.specs.declared.book.Book.{Book}
use Rattle.book.specs.declared.slip.Slip.{Slip}
use Rattle.book.specs.Calls.{State, Call, Answer, run}
use Rattle.book.specs.Calls.Answer.{refused, done, priced, planned, closed}
use Rattle.book.specs.Sound.{AllLawful, Sound}

-- a book as a state
abbrev pub state : Book → State
state b = record { number = b.number; jobs = jobs_of b.queue; held = b.held; charges = rows_of b.charges }

-- the answers of the calls: each case's meaning
abbrev pub said : Result (Unit {0}) Refusal → Answer
said (Ok x) = done
said (Err e) = refused (told_of e)

abbrev pub said_price : Result Slip Refusal → Answer
said_price (Ok s) = priced s.price
said_price (Err e) = refused (told_of e)

abbrev pub said_plan : List Segment → Result Planned Refusal → Answer
said_plan buffer (Ok p) = planned p.segments p.energy buffer
said_plan buffer (Err e) = refused (told_of e)

abbrev pub said_energy : Result ℕ Refusal → Answer
said_energy (Ok e) = closed e
said_energy (Err e) = refused (told_of e)

abbrev pub said_back : Result (Unit {0}) (Slip × Refusal) → Answer
said_back (Ok x) = done
said_back (Err e) = refused (told_of e.1)

-- a refused call hands back the slip that it was given
abbrev pub handed_back : Slip → Result (Unit {0}) (Slip × Refusal) → Type 0
handed_back s (Ok x) = Unit {0}
handed_back s (Err e) = e.0 ≡ s

-- a refused plan leaves the buffer as it was
abbrev pub kept_buffer : Result Planned Refusal → List Segment → List Segment → Type 0
kept_buffer (Ok p) entry exit = Unit {0}
kept_buffer (Err e) entry exit = exit ≡ entry

-- for every list of calls that leads to the state s, with lawful processors: with this call more it leads to t, and is sound
abbrev pub SoundWith : State → State → Call → Type 0
SoundWith s t c =
    (h : List Call) → AllLawful h → s ≡ run s.number h
    → (t ≡ run s.number (h ++ (c ∷ []))) × Sound s.number (h ++ (c ∷ []))
