use Rattle.std.specs.Prelude.{◌≡◌, true, false, take}
use Rattle.cell_maps.specs.Sets.{has}
use Rattle.grid_address.specs.Place.{same_place, Place}
use Rattle.depend_graph.specs.Network.{reads}
use Rattle.depend_graph.proofs.closure.are_unread.Given as goal

abbrev pub invariant-loop-cell : goal.invariant-loop-cell
invariant-loop-cell l = (c : Place) → has same_place (take l.cell-index l.fn.cells) c ≡ true → (d : Place)
    → reads l.fn.graph d c ≡ false
