use Rattle.std.specs.Prelude.{◌≡◌, true, false, take}
use Rattle.cell_maps.specs.Sets.{has}
use Rattle.edit_log.specs.Changes.{is_noted}
use Rattle.grid_address.specs.Place.{same_place, Place}
use Rattle.edit_log.proofs.runs.are_beside.Given as goal

abbrev pub invariant-loop-change : goal.invariant-loop-change
invariant-loop-change l = (c : Place) → has same_place l.set.keys c ≡ true →
    is_noted (take l.change-index l.changes) c ≡ false
