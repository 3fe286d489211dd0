-- When a chain may take in a point: it is bent strictly, and all of it is before the point.
use Rattle.std.specs.Prelude.{ℕ, ◌<◌, Bool, List}
use Rattle.model.specs.declared.point.Point.{Point}
use Rattle.theory.proofs.Tight.{Bent}

abbrev pub Ready : Bool → Point → List Point → Point → Type 0
Ready up p chain x = (n : ℕ) × (n < x.time) × Bent up n p chain
