use Rattle.std.specs.Prelude.{◌≡◌, ◌++◌, drop}
use Rattle.std.specs.List.{filter}
use Rattle.grid_address.specs.Place.{Place}
use Rattle.formula_tree.specs.Values.{is_filled}
use Rattle.sheet_store.specs.Grid.{value_at}
use Rattle.recalculation.proofs.view.filled_among.Given as goal

abbrev pub invariant-loop-cell : goal.invariant-loop-cell
invariant-loop-cell l =
    l.list ++ filter (λ (c : Place). is_filled (value_at l.store c)) (drop l.cell-index l.cells)
    ≡ filter (λ (c : Place). is_filled (value_at l.store c)) l.cells
