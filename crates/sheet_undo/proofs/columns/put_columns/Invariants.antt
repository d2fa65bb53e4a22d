use Rattle.std.proofs.Common.{◌≡◌, ◌++◌, take, drop}
use Rattle.sheet_undo.proofs.columns.put_columns.Given as goal

abbrev pub invariant-loop-col : goal.invariant-loop-col
invariant-loop-col l = l.into ≡ record l.fn.into {
  widths = take l.col l.store.widths ++ drop l.col l.fn.into.widths;
  hidden = take l.col l.store.hidden ++ drop l.col l.fn.into.hidden;
}
