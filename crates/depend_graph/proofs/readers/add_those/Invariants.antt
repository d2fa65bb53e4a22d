use Rattle.std.specs.Prelude.{◌≡◌, ◌↔◌, true, take}
use Rattle.std.proofs.Common.{◌⊎◌}
use Rattle.cell_maps.specs.Sets.{has}
use Rattle.grid_address.specs.Place.{same_place, Place}
use Rattle.depend_graph.specs.inner.Readers.{IsReaderAmong}
use Rattle.depend_graph.proofs.readers.add_those.Given as goal

abbrev pub invariant-loop-formula : goal.invariant-loop-formula
invariant-loop-formula l = (d : Place) → (has same_place l.found.items d ≡ true) ↔
    ((has same_place l.fn.found.items d ≡ true) ⊎ IsReaderAmong l.slots l.cell (take l.formula-index l.formulas) d)
