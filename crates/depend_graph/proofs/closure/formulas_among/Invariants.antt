use Rattle.std.specs.Prelude.{◌≡◌, ◌↔◌, true, take}
use Rattle.cell_maps.specs.Sets.{has}
use Rattle.grid_address.specs.Place.{same_place, Place}
use Rattle.depend_graph.specs.Network.{is_formula}
use Rattle.depend_graph.proofs.closure.formulas_among.Given as goal

abbrev pub invariant-loop-cell : goal.invariant-loop-cell
invariant-loop-cell l = (c : Place) → (has same_place l.list c ≡ true) ↔
    ((has same_place (take l.cell-index l.fn.cells) c ≡ true) × (is_formula l.fn.graph c ≡ true))
