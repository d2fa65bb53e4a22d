use Rattle.std.specs.Prelude.{take}
use Rattle.grid_address.specs.Place.{same_place}
use Rattle.cell_maps.specs.Sets.{has}
use Rattle.sheet_edits.specs.inner.Putting.{ArePut, HaveRoom, IsGrown}
use Rattle.sheet_edits.proofs.many.put_all_new.Given as goal

abbrev pub invariant-loop-cell : goal.invariant-loop-cell
invariant-loop-cell l = record {
  grown : IsGrown l.grown l.fn.store l.store;
  put : ArePut l.fn.changes l.fn.store l.changes l.store;
  room : HaveRoom l.changes (has same_place (take l.cell-index l.cells)) l.store;
}
