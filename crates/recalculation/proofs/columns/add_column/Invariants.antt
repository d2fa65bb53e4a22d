use Rattle.std.specs.Prelude.{◌≡◌, ◌++◌, drop, nat_eq}
use Rattle.std.specs.List.{filter}
use Rattle.grid_address.specs.Place.{Place}
use Rattle.recalculation.proofs.columns.add_column.Given as goal

abbrev pub invariant-loop-cell : goal.invariant-loop-cell
invariant-loop-cell l = l.list.items ++ filter (λ (c : Place). nat_eq c.col l.col)
    (drop l.cell-index l.cells) ≡ l.fn.list.items ++ filter (λ (c : Place). nat_eq c.col l.col) l.cells
