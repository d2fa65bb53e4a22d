use Rattle.std.specs.Prelude.{◌≡◌, true, take}
use Rattle.cell_maps.specs.Sets.{has}
use Rattle.grid_address.specs.Place.{same_place, Place}
use Rattle.sheet_edits.proofs.edit.are_in.Given as goal

abbrev pub invariant-loop-cell : goal.invariant-loop-cell
invariant-loop-cell l = (d : Place) → has same_place (take l.cell-index l.fn.cells) d ≡ true
    → has same_place l.fn.set.keys d ≡ true
