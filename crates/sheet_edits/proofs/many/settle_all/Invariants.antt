use Rattle.std.specs.Prelude.{◌≡◌, ◌&&◌, cond, false, true, take}
use Rattle.std.specs.FinMap as map
use Rattle.grid_address.specs.Place.{same_place, Place}
use Rattle.cell_maps.specs.Sets.{has}
use Rattle.recalculation.specs.Context.{formula_at}
use Rattle.recalculation.specs.Reading.{is_formula_at, node_of}
use Rattle.sheet_edits.specs.inner.Putting.{IsOffered}
use Rattle.sheet_edits.proofs.many.settle_all.Given as goal

abbrev pub invariant-loop-cell : goal.invariant-loop-cell
invariant-loop-cell l = record {
  done : (c : Place) → has same_place (take l.cell-index l.cells) c ≡ true
      → map.get l.graph.formulas c ≡ node_of (formula_at l.store c) c;
  offered : (c : Place) → has same_place l.cells c ≡ true → IsOffered l.graph l.store c;
  others : (c : Place) → has same_place l.cells c ≡ false
      → map.get l.graph.formulas c ≡ node_of (formula_at l.store c) c;
  dirty : (c : Place) → has same_place l.dirty.keys c ≡ cond (has same_place (take l.cell-index l.cells) c)
      (has same_place l.fn.dirty.keys c && is_formula_at l.store c) (has same_place l.fn.dirty.keys c);
}
