use Rattle.std.proofs.Common.{◌≡◌, drop}
use Rattle.cell_maps.specs.Filled.{filled}
use Rattle.sheet_store.specs.inner.Copies.{inserted_all}
use Rattle.sheet_store.proofs.store.copy_cells.Given as goal

abbrev pub invariant-loop-held : goal.invariant-loop-held
invariant-loop-held l = inserted_all l.copy (filled (drop l.held-index l.held-items)) ≡ l.cells
