-- What is found from some cells on, going back over what formulas read.
use Rattle.std.specs.Prelude.{◌≡◌, true, List}
use Rattle.cell_maps.specs.Sets.{has}
use Rattle.grid_address.specs.Place.{same_place, Place}
use Rattle.depend_graph.specs.Network.{reads, Network}

-- c is one of the cells, or reads one that is within
pub data Within (g : Network) (cells : List Place) : Place → Type 0 where
  seed : {c : Place} → has same_place cells c ≡ true → Within g cells c
  reader : {c d : Place} → Within g cells c → reads g d c ≡ true → Within g cells d
