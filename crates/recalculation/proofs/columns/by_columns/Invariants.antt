use Rattle.std.specs.Prelude.{◌≡◌, ◌-◌, ◌++◌}
use Rattle.recalculation.specs.Reading.{by_columns, of_columns}
use Rattle.recalculation.proofs.columns.by_columns.Given as goal

abbrev pub invariant-loop-col : goal.invariant-loop-col
invariant-loop-col l = l.list.items ++ of_columns (256 - l.col) l.col l.cells ≡ by_columns l.cells
