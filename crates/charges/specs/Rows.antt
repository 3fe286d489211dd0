-- What a table of charges means: a number for the house and for each account.
use Rattle.std.specs.Prelude.{ℕ, List, map}
use Rattle.charges.specs.declared.charges.Charges.{Charges}

-- the energies in order
unfoldable pub rows_of : Charges → List ℕ
rows_of c = map (λ r. r.energy) c.rows
