use Rattle.std.specs.Prelude.{◌≡◌, ◌<◌, true, take}
use Rattle.std.specs.List.{IsDistinct}
use Rattle.cell_maps.specs.Sets.{has}
use Rattle.grid_address.specs.Place.{rank, same_place, Place}
use Rattle.edit_log.proofs.runs.is_run.Given as goal

abbrev pub invariant-loop-cell : goal.invariant-loop-cell
invariant-loop-cell l = record {
  below : (c : Place) → has same_place (take l.cell-index l.cells) c ≡ true → rank c < l.least;
  once : IsDistinct same_place (take l.cell-index l.cells);
}
