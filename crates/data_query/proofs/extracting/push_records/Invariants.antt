use Rattle.std.proofs.Common.{◌≡◌, ◌+◌, ◌++◌, map}
use Rattle.block_writes.specs.Writing.{numbers_from}
use Rattle.block_writes.proofs.Rows.{rest}
use Rattle.data_query.specs.Extraction.{record_written, records_written, room_of}
use Rattle.data_query.proofs.Records.{row_of}
use Rattle.data_query.proofs.extracting.push_records.Given as goal

abbrev pub invariant-loop-place : goal.invariant-loop-place
invariant-loop-place g l =
    l.writes ++ rest (λ p. record_written (g.K.Look.sight l.look) l.fields p.0 p.1) (map row_of l.cells)
    (l.fn.output.first.row + 1) (room_of l.fn.output) l.place
    ≡ l.fn.writes ++ records_written (g.K.Look.sight l.look) l.fields (map row_of l.cells)
    (numbers_from (l.fn.output.first.row + 1) (room_of l.fn.output))
