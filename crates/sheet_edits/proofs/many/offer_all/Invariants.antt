use Rattle.std.specs.Prelude.{◌≡◌, true, take}
use Rattle.std.specs.FinMap as map
use Rattle.grid_address.specs.Place.{same_place, Place}
use Rattle.cell_maps.specs.Sets.{has}
use Rattle.sheet_edits.specs.inner.Putting.{node_given}
use Rattle.sheet_edits.proofs.many.offer_all.Given as goal

abbrev pub invariant-loop-cell : goal.invariant-loop-cell
invariant-loop-cell l = record {
  formulas : l.graph.formulas ≡ l.fn.graph.formulas;
  offers : (c : Place) → has same_place (take l.cell-index l.cells) c ≡ true
      → map.get l.graph.offers c ≡ node_given (map.get l.changes c) c;
}
