use Rattle.std.specs.Prelude.{take}
use Rattle.grid_address.specs.Place.{same_place}
use Rattle.cell_maps.specs.Sets.{has}
use Rattle.sheet_edits.specs.inner.Marks.{IsFirstOf}
use Rattle.sheet_edits.proofs.spans.first_marked.Given as goal

abbrev pub invariant-loop-cell : goal.invariant-loop-cell
invariant-loop-cell l = IsFirstOf l.store (has same_place (take l.cell-index l.cells)) l.first
