use Rattle.std.specs.Prelude.{◌≡◌, ◌++◌, drop}
use Rattle.std.specs.List.{filter}
use Rattle.grid_address.specs.Place.{same_place}
use Rattle.cell_maps.specs.Sets.{has}
use Rattle.recalculation.proofs.reads.add_kept.Given as goal

abbrev pub invariant-loop-cell : goal.invariant-loop-cell
invariant-loop-cell l = l.list.items ++ filter (has same_place l.set.keys)
    (drop l.cell-index l.cells) ≡ l.fn.list.items ++ filter (has same_place l.set.keys) l.cells
