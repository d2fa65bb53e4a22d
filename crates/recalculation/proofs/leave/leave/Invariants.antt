use Rattle.std.specs.Prelude.{take}
use Rattle.grid_address.specs.Place.{same_place}
use Rattle.cell_maps.specs.Sets.{has}
use Rattle.recalculation.specs.inner.Leaving.{LeftSoFar}
use Rattle.recalculation.proofs.leave.leave.Given as goal

abbrev pub invariant-loop-cell : goal.invariant-loop-cell
invariant-loop-cell l =
    LeftSoFar l.store (has same_place l.fn.dirty.keys) (take l.cell-index l.order) (has same_place l.dirty.keys)
