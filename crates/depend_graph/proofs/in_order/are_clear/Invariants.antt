use Rattle.std.specs.Prelude.{◌≡◌, take, true, false}
use Rattle.cell_maps.specs.Sets.{has}
use Rattle.grid_address.specs.Place.{same_place, Place}
use Rattle.range_index.specs.Owners.{hold}
use Rattle.depend_graph.proofs.in_order.are_clear.Given as goal

abbrev pub invariant-loop-span : goal.invariant-loop-span
invariant-loop-span l = (d : Place) → has same_place l.fn.cells d ≡ true → hold (take l.span-index l.fn.spans) d ≡ false
