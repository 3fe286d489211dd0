use Rattle.std.proofs.Common.{◌≡◌, length}
use Rattle.text.proofs.Spelled.{Spelled}
use Rattle.text.proofs.pen.Pen.number.Given as goal

-- the digits from a place on are written
abbrev pub invariant-loop-place : goal.invariant-loop-place
invariant-loop-place l = record {
  same : l.self.out.ghost_name ≡ l.fn.self.out.ghost_name;
  size : length l.self.out.now ≡ length l.fn.self.out.now;
  at : l.self.at ≡ l.fn.self.at;
  spelled : Spelled l.fn.self.out.now l.self.out.now l.fn.self.at l.n l.place l.rest;
}
