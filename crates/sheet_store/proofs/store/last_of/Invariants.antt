use Rattle.std.proofs.Common.{◌≡◌, ◌-◌, None, Some, drop, length}
use Rattle.cell_maps.specs.Filled.{filled}
use Rattle.sheet_store.specs.Grid.{last_among}
use Rattle.sheet_store.proofs.store.last_of.Given as goal

abbrev pub invariant-loop-at : goal.invariant-loop-at
invariant-loop-at l = last_among (Some l.last) (filled (drop l.at l.held)) ≡ last_among None (filled l.held)

abbrev pub decreases-loop-at : goal.decreases-loop-at
decreases-loop-at l = length l.held - l.at
