use Rattle.std.specs.Prelude.{◌≡◌, ◌&&◌, ◌||◌, take}
use Rattle.std.specs.FinMap as map
use Rattle.grid_address.specs.Place.{same_place, Place}
use Rattle.depend_graph.specs.Sets.{Extends}
use Rattle.cell_maps.specs.Sets.{has}
use Rattle.sheet_edits.specs.inner.Putting.{gives_formula}
use Rattle.sheet_edits.proofs.many.insert_given.Given as goal

abbrev pub invariant-loop-cell : goal.invariant-loop-cell
invariant-loop-cell l = record {
  members : (c : Place) → has same_place l.dirty.keys c ≡ (has same_place l.fn.dirty.keys c
      || (has same_place (take l.cell-index l.cells) c && gives_formula (map.get l.changes c)));
  extends : Extends l.fn.dirty.keys l.dirty.keys;
}
