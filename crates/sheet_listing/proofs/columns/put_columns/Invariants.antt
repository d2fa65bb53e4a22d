use Rattle.std.proofs.Common.{◌≡◌, ◌++◌, drop}
use Rattle.std.specs.Prelude.{flat_map}
use Rattle.sheet_store.specs.Grid.{is_hidden, width_of}
use Rattle.wk1_file.specs.Saved.{columns}
use Rattle.sheet_listing.specs.Listed.{column_line}
use Rattle.sheet_listing.proofs.columns.put_columns.Given as goal

abbrev pub invariant-loop-col : goal.invariant-loop-col
invariant-loop-col l =
    l.into.items ++ flat_map (λ col. column_line col (width_of l.store col) (is_hidden l.store col))
    (drop l.col columns)
    ≡ l.fn.into.items ++ flat_map (λ col. column_line col (width_of l.store col) (is_hidden l.store col)) columns
