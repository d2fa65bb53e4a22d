use Rattle.std.specs.Prelude.{◌≡◌, ◌&&◌, cond, take}
use Rattle.std.specs.FinMap as map
use Rattle.grid_address.specs.Place.{same_place, Place}
use Rattle.cell_maps.specs.Sets.{has}
use Rattle.recalculation.specs.Context.{formula_at}
use Rattle.recalculation.specs.Reading.{is_formula_at, node_of}
use Rattle.recalculation.proofs.whole.add_formulas.Given as goal

abbrev pub invariant-loop-cell : goal.invariant-loop-cell
invariant-loop-cell l = (c : Place) → map.get l.graph.formulas c ≡ cond (has same_place (take l.cell-index l.cells) c
    && is_formula_at l.store c) (node_of (formula_at l.store c) c) (map.get l.fn.graph.formulas c)
