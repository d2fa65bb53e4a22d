use Rattle.std.proofs.Common.{◌≡◌, ◌≤◌, ◌<◌, ◌-◌}
use Rattle.grid_address.specs.Place.{InSheet, Place}
use Rattle.cell_maps.specs.Numbers.{number_at}
use Rattle.cell_maps.proofs.table.PlaceTable.next_column.Given as goal

abbrev pub invariant-loop-col : goal.invariant-loop-col
invariant-loop-col l = record {
  from : l.fn.cell.col ≤ l.col;
  within : l.col ≤ 256;
  none : (d : Place) → InSheet d → d.row ≡ l.fn.cell.row → l.fn.cell.col ≤ d.col → d.col < l.col
      → number_at l.self d ≡ 0;
}

abbrev pub decreases-loop-col : goal.decreases-loop-col
decreases-loop-col l = 256 - l.col
