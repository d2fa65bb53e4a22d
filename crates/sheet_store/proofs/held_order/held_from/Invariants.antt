use Rattle.std.proofs.Common.{◌≡◌, ◌-◌, drop, length}
use Rattle.cell_maps.specs.Filled.{filled}
use Rattle.sheet_store.proofs.held_order.held_from.Given as goal

-- none that was passed over has a state
abbrev pub invariant-loop-place : goal.invariant-loop-place
invariant-loop-place l = filled (drop l.place l.held) ≡ filled (drop l.fn.at l.held)

abbrev pub decreases-loop-place : goal.decreases-loop-place
decreases-loop-place l = length l.held - l.place
