use Rattle.std.specs.Prelude.{◌≡◌, None, cond, take}
use Rattle.std.specs.FinMap as map
use Rattle.grid_address.specs.Place.{same_place, Place}
use Rattle.cell_maps.specs.Sets.{has}
use Rattle.sheet_edits.proofs.many.clear_all.Given as goal

abbrev pub invariant-loop-cell : goal.invariant-loop-cell
invariant-loop-cell l = record {
  cells : (c : Place)
      → map.get l.store.cells c ≡ cond (has same_place (take l.cell-index l.cells) c) None (map.get l.fn.store.cells c);
  widths : l.store.widths ≡ l.fn.store.widths;
  hidden : l.store.hidden ≡ l.fn.store.hidden;
}
