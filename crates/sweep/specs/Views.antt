-- What a chain means: its points in order.
use Rattle.std.specs.Prelude.{ℕ, ◌-◌, List, length, take, drop, slice_index_or}
use Rattle.model.specs.Path.{start}
use Rattle.model.specs.declared.point.Point.{Point}
use Rattle.sweep.specs.declared.chain.Chain.{Chain}

-- the points of a chain
abbrev pub view : Chain → List Point
view c = drop c.start c.points.items

-- the place after the last
abbrev pub end : Chain → ℕ
end c = length c.points.items

-- the last of some points, and those before it
abbrev pub newest : List Point → Point
newest points = slice_index_or points (length points - 1) start

abbrev pub older : List Point → List Point
older points = take (length points - 1) points
