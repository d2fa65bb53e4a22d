use Rattle.std.specs.FinMap as finite
use Rattle.std.proofs.Common.{length}
use Rattle.grid_address.specs.Place.{Place}
use Rattle.sheet_store.specs.State.{CellState}
use Rattle.wk1_records.specs.Records.{pieces_bytes}
use Rattle.wk1_file.specs.Saved.{cell_pieces}
use Rattle.wk1_file.specs.Said.{IsContent, IsValue}
use Rattle.wk1_file.specs.inner.Written.{Writes}
use Rattle.wk1_file.proofs.put_cells.put_cells.Given as goal

abbrev pub invariant-loop-entry : goal.invariant-loop-entry
invariant-loop-entry l =
    Writes {X = Place × CellState} (λ e. pieces_bytes (cell_pieces e)) (λ e. IsContent e.1.content × IsValue e.1.value)
    l.fn.into.items l.into.items l.entries (finite.entries l.store.cells)

abbrev pub decreases-loop-entry : goal.decreases-loop-entry
decreases-loop-entry l = length l.entries
