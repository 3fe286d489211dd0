-- A whole record: its kind, and then its body.
use Rattle.std.proofs.Common.{◌≡◌, ℕ, ◌<◌, ◌≤◌, cond, ◌&&◌, eqb, leb, ◌⊎◌, List, [], ◌∷◌, ◌++◌, length, take, drop, Some, None, Option, Err, Result, sym, ap, ◌∙◌, arith}
use Rattle.model.specs.declared.segment.Segment.{Segment}
use Rattle.refusal.specs.Refusals.{Told}
use Rattle.refusal.specs.declared.refusal.Refusal.{Refusal}
use Rattle.refusal.specs.declared.refusal.Refusal.TheVariants.{Past}
use Rattle.std.specs.Option.{ok_or}
use Rattle.std.proofs.lemmas.List.{take_at, length-take-le}
use Rattle.std.proofs.lemmas.Bool.Decides.{nat_tests}
use Rattle.record.specs.Checks.{Stands}
use Rattle.record.specs.Got.{Got, got, refused, refuse, counted, filled}
use Rattle.record.specs.Numbers.{number_bytes}
use Rattle.record.specs.Writing.{record_bytes, segments_bytes}
use Rattle.record.specs.Reading.{read_record, read_any, read_body, read_segments, machine_answer, numbered}
use Rattle.record.proofs.Ticking.{step_past}

-- there is no byte
pub record_ended : (kind steps room : ℕ) (bytes : List ℕ) → bytes ≡ [] → read_record kind steps room bytes ≡ refuse 25
unfolding read_record
record_ended kind steps room bytes e = ap (λ (xs : List ℕ). read_record kind steps room xs) e

record_at : (kind steps room b : ℕ) (bytes body : List ℕ) → bytes ≡ b ∷ body → read_record kind steps room bytes ≡ cond (eqb b kind) (read_body steps room body) (refuse 27)
unfolding read_record
record_at kind steps room b bytes body e = ap (λ (xs : List ℕ). read_record kind steps room xs) e

-- the kind is another
pub other_kind : (kind steps room b : ℕ) (bytes body : List ℕ) → bytes ≡ b ∷ body → (b ≡ kind → ⊥) → read_record kind steps room bytes ≡ refuse 27
other_kind kind steps room b bytes body e n =
    let h = record_at kind steps room b bytes body e in grind (arith, nat_tests)

-- the kind is this one
pub same_kind : (kind steps steps' room b : ℕ) (bytes body : List ℕ) → bytes ≡ b ∷ body → b ≡ kind → steps' ≡ steps → read_record kind steps room bytes ≡ read_body steps' room body
same_kind kind steps steps' room b bytes body e f q =
    let h = record_at kind steps room b bytes body e in grind (arith, nat_tests)

-- bytes that read as segments are the record of these
pub exactly : (kind b : ℕ) (bytes body : List ℕ) (ss : List Segment) → bytes ≡ b ∷ body → b ≡ kind → body ≡ number_bytes (length ss) ++ segments_bytes ss → bytes ≡ record_bytes kind ss
unfolding record_bytes
exactly kind b bytes body ss e f x = e ∙ ap (λ (k : ℕ). k ∷ body) f ∙ ap (λ (xs : List ℕ). kind ∷ xs) x

-- what was read again into the first n places of a buffer is what was found
pub found_again : (n steps : ℕ) (bytes : List ℕ) (buffer part ss : List Segment) → n ≤ length buffer → read_segments (length (take n buffer)) steps steps 0 bytes ≡ got part []
    → read_segments n steps steps 0 bytes ≡ got ss [] → part ≡ ss
found_again n steps bytes buffer part ss l e f =
    let h : got part [] ≡ got ss [] = sym e ∙ ap (λ (m : ℕ). read_segments m steps steps 0 bytes) (length-take-le n buffer l) ∙ f in
    cc

-- and it stands at the start of the buffer
pub found_first : (n : ℕ) (ss part buffer : List Segment) → n ≡ length ss → part ≡ ss → take n (part ++ drop n buffer) ≡ ss
found_first n ss part buffer e f = ap (λ (xs : List Segment). take n (xs ++ drop n buffer)) f ∙ take_at ss (drop n buffer) n (sym e)

pub found_filled : (n : ℕ) (ss part buffer : List Segment) {g : Got (List Segment)} → g ≡ got ss [] → n ≡ length ss → part ≡ ss → part ++ drop n buffer ≡ filled g buffer
found_filled n ss part buffer {g} e c f =
    ap (λ (xs : List Segment). xs ++ drop n buffer) f
    ∙ ap (λ (m : ℕ). ss ++ drop m buffer) c
    ∙ sym (ap (λ (h : Got (List Segment)). filled h buffer) e)

-- a record by any processor
pub any_ended : (bytes : List ℕ) → bytes ≡ [] → read_any bytes ≡ refuse 25
unfolding read_any
any_ended bytes e = ap read_any e

any_at : (b : ℕ) (bytes body : List ℕ) → bytes ≡ b ∷ body → read_any bytes ≡ cond (leb 1 b && leb b 127) (read_body 16 1024 body) (refuse 27)
unfolding read_any
any_at b bytes body e = ap read_any e

pub any_kindless : (b : ℕ) (bytes body : List ℕ) → bytes ≡ b ∷ body → (b < 1) ⊎ (127 < b) → read_any bytes ≡ refuse 27
any_kindless b bytes body e h = let f = any_at b bytes body e in grind (arith, nat_tests)

pub any_body : (b : ℕ) (bytes body : List ℕ) → bytes ≡ b ∷ body → (1 ≤ b) × (b ≤ 127) → read_any bytes ≡ read_body 16 1024 body
any_body b bytes body e h =
    let f = any_at b bytes body e in grind (arith, nat_tests)

-- the machine's answer on a record that passes: the step that was found, or the number of the refusal
pub answer_found : (steps tick : ℕ) (ss : List Segment) (g : Got (List Segment)) (o : Option ℕ) → g ≡ got ss [] → Stands steps tick ss o
    → (r : Result ℕ Refusal) → r ≡ ok_or o Past → numbered r ≡ machine_answer g tick
answer_found steps tick ss g None e h r f =
    ap numbered f ∙ sym (ap (λ (x : Got (List Segment)). machine_answer x tick) e ∙ step_past ss tick h)
answer_found steps tick ss g (Some x) e h r f = ap numbered f ∙ h.1 ∙ sym (ap (λ (y : Got (List Segment)). machine_answer y tick) e)

-- what a refused reading answers and leaves
pub refused_count : {g : Got (List Segment)} {t : Told} → g ≡ refused t → Err t ≡ counted g
refused_count e = sym (ap counted e)

pub refused_fill : {g : Got (List Segment)} {t : Told} {buffer : List Segment} → g ≡ refused t → buffer ≡ filled g buffer
refused_fill {g} {t} {buffer} e = sym (ap (λ (h : Got (List Segment)). filled h buffer) e)
