use Rattle.std.specs.Prelude.{◌≡◌, ◌&&◌, ◌||◌, nat_eq}
use Rattle.grid_address.specs.Place.{same_place, Place}
use Rattle.cell_maps.specs.Sets.{has}
use Rattle.sheet_edits.specs.inner.Lines.{in_columns}
use Rattle.sheet_edits.proofs.spans.put_row.Given as goal

abbrev pub invariant-loop-place : goal.invariant-loop-place
invariant-loop-place l = (c : Place)
    → has same_place l.cells c ≡ (has same_place l.fn.cells c || (nat_eq c.row l.row && in_columns l.first l.place c))
