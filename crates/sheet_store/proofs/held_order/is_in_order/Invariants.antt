use Rattle.std.proofs.Common.{◌≤◌, drop, length}
use Rattle.cell_maps.specs.Filled.{filled}
use Rattle.sheet_store.proofs.HeldOrder.{InOrder}
use Rattle.sheet_store.proofs.held_order.is_in_order.Given as goal

-- those from the place on are in order
abbrev pub invariant-loop-at : goal.invariant-loop-at
invariant-loop-at l = record {
  within : l.at ≤ length l.held;
  ordered : InOrder l.least (filled (drop l.at l.held));
}

abbrev pub decreases-loop-at : goal.decreases-loop-at
decreases-loop-at l = l.at
