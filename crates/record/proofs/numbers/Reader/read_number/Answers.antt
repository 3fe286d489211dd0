use Rattle.std.proofs.Common.{ℕ, ◌-◌, ◌<◌, ◌∷◌, sym, Result, ap, ◌∙◌, arith}
use Rattle.refusal.specs.Refusals.{told_of}
use Rattle.refusal.specs.declared.refusal.Refusal.{Refusal}
use Rattle.record.specs.Got.{refused, seen}
use Rattle.record.proofs.Exits.{refused_as}
use Rattle.record.proofs.Halfway.{on_by, ended, overlong, padded, closed, within}
use Rattle.record.proofs.numbers.Reader.read_number.Goals as goal

pub returns-in_err-read_byte-clause-reads : goal.returns-in_err-read_byte-clause-reads
returns-in_err-read_byte-clause-reads c =
    let e = c.in_err-read_byte.ensures in
    refused_as (λ (r : Result ℕ Refusal). seen c.read_byte.new.self.rest.now r) _ c.from_residual.result c.from_residual.ensures.1
    ∙ ap (λ (x : Refusal). refused (told_of x)) e.1
    ∙ ended c.loop-k.invariant e.0 c.loop-k-test.true

pub returns-then-byte-eq0-clause-reads : goal.returns-then-byte-eq0-clause-reads
returns-then-byte-eq0-clause-reads c = padded c.loop-k.invariant (c.in_ok-read_byte.ensures) c.loop-k-test.true (omega arith) (omega arith)

pub overflow_mul-result : goal.overflow_mul-result
overflow_mul-result c = omega (arith, (within c.loop-k.invariant c.loop-k-test.true c.from-byte.result (omega arith)).2)

pub overflow_add-result : goal.overflow_add-result
overflow_add-result c =
    let w = within c.loop-k.invariant c.loop-k-test.true c.from-byte.result (omega arith) in
    omega (arith, w.1, w.2)

pub returns-then-byte-lt128 : goal.returns-then-byte-lt128
returns-then-byte-lt128 c =
    let p : (0 < c.loop-k.k → 0 < c.from-byte.result) = λ h. omega arith in
    let f = closed c.loop-k.invariant (c.in_ok-read_byte.ensures ∙ ap (λ (x : ℕ). x ∷ c.read_byte.new.self.rest.now) (sym c.from-byte.ensures)) c.loop-k-test.true c.if-byte-lt128.true p in
    record { reads = f.0; exact = (f.1, f.2) }

pub overflow_mul-n : goal.overflow_mul-n
overflow_mul-n c = omega (arith, (within c.loop-k.invariant c.loop-k-test.true (c.from-byte.result - 128) (omega arith)).2)

pub overflow_add-n : goal.overflow_add-n
overflow_add-n c =
    let w = within c.loop-k.invariant c.loop-k-test.true (c.from-byte.result - 128) (omega arith) in
    omega (arith, w.1, w.2)

pub overflow_mul-scale : goal.overflow_mul-scale
overflow_mul-scale c = omega (arith, (within c.loop-k.invariant c.loop-k-test.true 0 (omega arith)).0)

pub loop-k-preserved : goal.loop-k-preserved
loop-k-preserved c = on_by c.loop-k.invariant (c.in_ok-read_byte.ensures ∙ ap (λ (x : ℕ). x ∷ c.read_byte.new.self.rest.now) (sym c.from-byte.ensures)) c.loop-k-test.true (omega arith) (omega arith)

pub returns-clause-reads : goal.returns-clause-reads
returns-clause-reads c = overlong c.loop-k.invariant c.loop-k-test.false
