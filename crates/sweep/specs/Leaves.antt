-- What a step of the sweep leaves.
use Rattle.std.specs.Prelude.{◌≡◌, ◌++◌}
use Rattle.sweep.specs.Views.{view}
use Rattle.sweep.specs.declared.chain.Chain.{Chain}
use Rattle.sweep.specs.declared.way.Way.{Way}
use Rattle.theory.specs.Sweep.{Funnel}

-- as a funnel tells it: the apex, both chains, and behind the corners found before those that the step found
pub record Leaves (f : Funnel) (c d : Chain) (before after : Way) : Type 0 where
  pub apex : after.apex ≡ f.apex
  pub own : view c ≡ f.own
  pub other : view d ≡ f.other
  pub out : view after.corners ≡ view before.corners ++ f.out
