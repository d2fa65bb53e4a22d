-- Lists of cells that grow.
use Rattle.std.specs.Prelude.{◌≡◌, List, ◌++◌}
use Rattle.grid_address.specs.Place.{Place}

-- new has what old had, in the same places, and more
pub record Extends (old new : List Place) : Type 0 where
  pub more : List Place
  pub is : new ≡ old ++ more
