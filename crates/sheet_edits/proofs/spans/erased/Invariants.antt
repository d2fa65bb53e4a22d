use Rattle.std.specs.Prelude.{take}
use Rattle.std.specs.FinMap.{get}
use Rattle.grid_address.specs.Place.{same_place}
use Rattle.cell_maps.specs.Sets.{has}
use Rattle.sheet_edits.specs.Spans.{blanked, AreGiven}
use Rattle.sheet_edits.proofs.spans.erased.Given as goal

abbrev pub invariant-loop-cell : goal.invariant-loop-cell
invariant-loop-cell l =
    AreGiven l.changes (has same_place (take l.cell-index l.cells)) (λ c. blanked (get l.store.cells c))
