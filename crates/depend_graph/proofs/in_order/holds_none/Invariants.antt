use Rattle.std.specs.Prelude.{◌≡◌, take, true, false}
use Rattle.cell_maps.specs.Sets.{has}
use Rattle.grid_address.specs.Place.{is_within, same_place, Place}
use Rattle.depend_graph.proofs.in_order.holds_none.Given as goal

abbrev pub invariant-loop-cell : goal.invariant-loop-cell
invariant-loop-cell l = (d : Place) → has same_place (take l.cell-index l.fn.cells) d ≡ true
    → is_within l.fn.span d ≡ false
