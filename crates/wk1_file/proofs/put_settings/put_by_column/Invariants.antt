use Rattle.std.proofs.Common.{◌≤◌, get_or, drop}
use Rattle.sheet_store.specs.Grid.{width_of}
use Rattle.wk1_records.specs.Records.{pieces_bytes}
use Rattle.wk1_file.specs.Saved.{columns, width_piece}
use Rattle.wk1_file.specs.inner.Written.{Writes}
use Rattle.wk1_file.proofs.put_settings.put_by_column.Given as goal

abbrev pub invariant-loop-col : goal.invariant-loop-col
invariant-loop-col l =
    Writes (λ col. pieces_bytes (width_piece col (width_of l.store col))) (λ col. get_or l.store.widths col 0 ≤ 240)
    l.fn.into.items l.into.items (drop l.col columns) columns
