use Rattle.std.proofs.Common.{ℕ, ◌≡◌, ◌+◌, ◌++◌, List, map, ap, ◌∙◌, arith}
use Rattle.sheet_store.specs.declared.writes.Write.{Write}
use Rattle.block_writes.specs.Writing.{columns_of, numbers_from}
use Rattle.data_query.specs.Extraction.{records_written, room_of}
use Rattle.data_query.specs.Selection.{rows_erased}
use Rattle.data_query.proofs.Records.{row_of}
use Rattle.data_query.proofs.extracting.output_written.Goals as goal

pub returns : goal.returns
returns g c =
    let output = c.args.output in
    let first = c.row_below-first.result in
    let erased = λ (m : ℕ) (n : ℕ). rows_erased (columns_of output) (numbers_from m n) in
    let records : List Write =
    records_written (g.K.Look.sight c.args.look.now) c.args.fields.now (map row_of c.args.cells.now)
    (numbers_from (output.first.row + 1) (room_of output)) in
    let begins : first ≡ output.first.row + 1 = omega (arith, c.row_below-first.ensures.row) in
    c.in_ok-push_records.ensures
    ∙ ap (λ (l : List Write). l ++ records)
    (c.in_ok-push_rows_erased.ensures
    ∙ ap (λ (l : List Write). l ++ erased first c.room_of-room.result) c.new-writes.ensures)
    ∙ ap (λ (n : ℕ). erased first n ++ records) c.room_of-room.ensures.room
    ∙ ap (λ (m : ℕ). erased m (room_of output) ++ records) begins
