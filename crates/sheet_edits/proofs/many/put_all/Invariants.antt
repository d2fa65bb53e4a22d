use Rattle.std.specs.Prelude.{◌≡◌, None, cond, take}
use Rattle.std.specs.FinMap as map
use Rattle.grid_address.specs.Place.{same_place, Place}
use Rattle.cell_maps.specs.Sets.{has}
use Rattle.sheet_edits.specs.Spans.{changed, Becomes}
use Rattle.sheet_edits.proofs.many.put_all.Given as goal

abbrev pub invariant-loop-cell : goal.invariant-loop-cell
invariant-loop-cell l = record {
  store : Becomes l.fn.store (λ c. cond (has same_place (take l.cell-index l.cells) c)
      (changed (map.get l.fn.changes c) (map.get l.fn.store.cells c)) (map.get l.fn.store.cells c)) l.store;
  changes : (c : Place)
      → map.get l.changes c ≡ cond (has same_place (take l.cell-index l.cells) c) None (map.get l.fn.changes c);
}
