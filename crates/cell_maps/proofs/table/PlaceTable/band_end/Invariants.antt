use Rattle.std.proofs.Common.{◌≡◌, ◌≤◌, ◌%◌}
use Rattle.grid_address.specs.Place.{InSheet, Place}
use Rattle.cell_maps.specs.Numbers.{band_of, number_at}
use Rattle.cell_maps.proofs.table.PlaceTable.band_end.Given as goal

abbrev pub invariant-loop-end : goal.invariant-loop-end
invariant-loop-end l = record {
  within : l.end ≤ 256;
  even : l.end % 4 ≡ 0;
  none : (d : Place) → InSheet d → band_of d ≡ band_of l.fn.cell → l.end ≤ d.col → number_at l.self d ≡ 0;
}

abbrev pub decreases-loop-end : goal.decreases-loop-end
decreases-loop-end l = l.end
