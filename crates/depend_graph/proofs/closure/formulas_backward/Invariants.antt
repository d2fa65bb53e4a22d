use Rattle.std.specs.Prelude.{◌≡◌, ◌≤◌, ◌↔◌, true, drop, length}
use Rattle.cell_maps.specs.Sets.{has}
use Rattle.grid_address.specs.Place.{same_place, Place}
use Rattle.depend_graph.specs.Network.{is_formula}
use Rattle.depend_graph.proofs.closure.formulas_backward.Given as goal

abbrev pub invariant-back : goal.invariant-back
invariant-back l = record {
  within : l.next ≤ length l.cells;
  members : (c : Place) → (has same_place l.list c ≡ true) ↔ ((has same_place (drop l.next l.cells) c ≡ true)
      × (is_formula l.graph c ≡ true));
}

abbrev pub decreases-back : goal.decreases-back
decreases-back l = l.next
