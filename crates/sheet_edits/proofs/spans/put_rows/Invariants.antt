use Rattle.std.specs.Prelude.{◌≡◌, ◌&&◌}
use Rattle.grid_address.specs.Place.{same_place, Place}
use Rattle.cell_maps.specs.Sets.{has}
use Rattle.sheet_edits.specs.inner.Lines.{in_columns, in_rows}
use Rattle.sheet_edits.proofs.spans.put_rows.Given as goal

abbrev pub invariant-loop-place : goal.invariant-loop-place
invariant-loop-place l = (c : Place) → has same_place l.cells c ≡ (in_rows l.row l.place c && in_columns l.col l.cols c)
