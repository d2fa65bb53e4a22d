use Rattle.std.specs.Prelude.{◌≡◌, true, take}
use Rattle.grid_address.specs.Place.{same_place, InSheet, Place}
use Rattle.cell_maps.specs.Sets.{has}
use Rattle.recalculation.proofs.columns.are_on_sheet.Given as goal

abbrev pub invariant-loop-cell : goal.invariant-loop-cell
invariant-loop-cell l = (c : Place) → has same_place (take l.cell-index l.cells) c ≡ true → InSheet c
