use Rattle.std.proofs.Common.{length, Err, Option, ap, ◌∙◌}
use Rattle.refusal.specs.Refusals.{Told, told}
use Rattle.sheet.specs.Answers.{drawn_text, length_unless, filled_unless}
use Rattle.sheet.specs.declared.fault.Fault.TheVariants.{Bytes, Room}
use Rattle.sheet.proofs.Filled.{answer_some, filled_some, too_many, too_small, by_lines}
use Rattle.sheet.proofs.Promised.{reads_back, is_printed}
use Rattle.sheet.proofs.drawing.draw.Goals as goal

pub returns-then-sheet-gt-MOST_BYTES : goal.returns-then-sheet-gt-MOST_BYTES
returns-then-sheet-gt-MOST_BYTES c =
    let s = c.args.sheet.now in
    let o = c.args.out.now in
    let t = too_many (length o) s c.if-sheet-gt-MOST_BYTES.true in
    let a = answer_some _ (told 33 0) (drawn_text s) t in
    let b = filled_some _ (told 33 0) (drawn_text s) o t in
    record { answer = a; buffer = b; back = reads_back s o o (Err Bytes) a b; exact = tt }

pub returns-then-out-lt-LEAST_ROOM : goal.returns-then-out-lt-LEAST_ROOM
returns-then-out-lt-LEAST_ROOM c =
    let s = c.args.sheet.now in
    let o = c.args.out.now in
    let t = too_small (length o) s c.if-sheet-gt-MOST_BYTES.false c.if-out-lt-LEAST_ROOM.true in
    let a = answer_some _ (told 24 0) (drawn_text s) t in
    let b = filled_some _ (told 24 0) (drawn_text s) o t in
    record { answer = a; buffer = b; back = reads_back s o o (Err Room) a b; exact = tt }

pub returns : goal.returns
returns c =
    let s = c.args.sheet.now in
    let o = c.args.out.now in
    let t = by_lines (length o) s c.if-sheet-gt-MOST_BYTES.false c.if-out-lt-LEAST_ROOM.false in
    let a = c.fill.ensures.answer ∙ ap (λ (x : Option Told). length_unless x (drawn_text s)) t in
    let b = c.fill.ensures.buffer ∙ ap (λ (x : Option Told). filled_unless x (drawn_text s) o) t in
    record { answer = a; buffer = b; back = reads_back s o c.fill.new.out c.fill.result a b; exact = is_printed (length o) s c.fill.result a }
