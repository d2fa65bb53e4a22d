-- Where places stand in row order.
use Rattle.std.specs.Prelude.{ℕ, ◌≡◌, ◌<◌, true, List}
use Rattle.cell_maps.specs.Sets.{has}
use Rattle.grid_address.specs.Place.{rank, same_place, Place}

-- each of the cells stands before this rank
abbrev pub StandBefore : ℕ → List Place → Type 0
StandBefore least cells = (c : Place) → has same_place cells c ≡ true → rank c < least
