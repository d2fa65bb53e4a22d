use Rattle.std.proofs.Common.{◌≡◌, ◌≤◌, ◌-◌, length, take}
use Rattle.cell_maps.proofs.set.are_same.Given as goal

abbrev pub invariant-cells : goal.invariant-cells
invariant-cells l = record {
  long : length l.cells ≡ length l.others;
  within : l.next ≤ length l.cells;
  same : take l.next l.cells ≡ take l.next l.others;
}

abbrev pub decreases-cells : goal.decreases-cells
decreases-cells l = length l.cells - l.next
