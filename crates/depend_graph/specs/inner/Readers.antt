-- What slots tell of formulas, and of the readers of a cell.
use Rattle.std.specs.Prelude.{◌≡◌, Bool, true, List}
use Rattle.std.specs.FinMap.{get}
use Rattle.std.specs.List.{list_any}
use Rattle.cell_maps.specs.Sets.{has}
use Rattle.grid_address.specs.Place.{same_place, Place}
use Rattle.depend_graph.specs.inner.Slots.{had, node_in, offer_in, picked, Slots}
use Rattle.depend_graph.specs.Network.{Network, holds}

-- the network that slots tell
abbrev pub network_of : Slots → Network
network_of m = record { formulas = picked node_in m; offers = picked offer_in m }

-- d is one of the formulas, and reads c
abbrev pub IsReaderAmong : Slots → Place → List Place → Place → Type 0
IsReaderAmong m c formulas d = (has same_place formulas d ≡ true) × (holds (had node_in (get m d)) c ≡ true)

-- whether one of the formulas reads c
abbrev pub any_reads : Slots → Place → List Place → Bool
any_reads m c formulas = list_any (λ d. holds (had node_in (get m d)) c) formulas
