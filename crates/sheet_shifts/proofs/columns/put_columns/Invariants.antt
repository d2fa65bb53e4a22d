use Rattle.std.proofs.Common.{◌≡◌, ◌++◌, take, drop, false}
use Rattle.sheet_shifts.specs.Columns.{columns_after}
use Rattle.sheet_shifts.proofs.columns.put_columns.Given as goal

abbrev pub invariant-loop-col : goal.invariant-loop-col
invariant-loop-col l = l.into ≡ record l.fn.into {
  widths = take l.col (columns_after l.shift 0 l.store.widths) ++ drop l.col l.fn.into.widths;
  hidden = take l.col (columns_after l.shift false l.store.hidden) ++ drop l.col l.fn.into.hidden;
}
