use Rattle.std.specs.Prelude.{◌≡◌, ◌||◌, take}
use Rattle.cell_maps.specs.Sets.{has}
use Rattle.grid_address.specs.Place.{same_place, Place}
use Rattle.depend_graph.specs.Sets.{Extends}
use Rattle.depend_graph.proofs.sets.insert_all.Given as goal

abbrev pub invariant-loop-cell : goal.invariant-loop-cell
invariant-loop-cell l = record {
  members : (c : Place)
      → has same_place l.set.keys c ≡ (has same_place l.fn.set.keys c || has same_place (take l.cell-index l.cells) c);
  extends : Extends l.fn.set.keys l.set.keys;
}
