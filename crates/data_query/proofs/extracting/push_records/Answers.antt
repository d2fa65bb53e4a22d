use Rattle.std.proofs.Common.{ℕ, ◌≡◌, ◌≤◌, ◌+◌, ◌++◌, get_or, length, map, sym, ap, ◌∙◌, arith}
use Rattle.std.proofs.lemmas.List.{get_or-map, length-map}
use Rattle.block_writes.specs.Writing.{numbers_from}
use Rattle.block_writes.proofs.Rows.{rest_first, rest_none, rest_step}
use Rattle.data_query.specs.Extraction.{record_written, records_written, room_of}
use Rattle.data_query.proofs.Records.{row_of}
use Rattle.data_query.proofs.extracting.push_records.Goals as goal

pub loop-place-init : goal.loop-place-init
loop-place-init g c =
    let f = λ (p : ℕ × ℕ). record_written (g.K.Look.sight c.args.look.now) c.args.fields.now p.0 p.1 in
    let output = c.args.output in
    ap (λ l. c.args.writes.now ++ l)
    (rest_first f (map row_of c.args.cells.now) (output.first.row + 1) (room_of output))

pub loop-place-preserved : goal.loop-place-preserved
loop-place-preserved g c =
    let sight = g.K.Look.sight c.args.look.now in
    let fields = c.args.fields.now in
    let f = λ (p : ℕ × ℕ). record_written sight fields p.0 p.1 in
    let rows = map row_of c.args.cells.now in
    let first : ℕ = c.args.output.first.row + 1 in
    let room : ℕ = room_of c.args.output in
    let all = c.args.writes.now ++ records_written sight fields rows (numbers_from first room) in
    let i = c.loop-place.place in
    let from = c.index-cells-place.result in
    let one : from.row ≡ get_or rows i 0 =
    ap row_of c.index-cells-place.is ∙ sym (get_or-map row_of c.args.cells.now i from 0 c.loop-place-test.true) in
    let begins : c.row_below-first.result ≡ first = omega (arith, c.row_below-first.ensures.row) in
    let fits : length c.args.cells.now ≤ room = c.requires in
    rest_step f rows first room c.loop-place.writes c.push_record.new.writes all i 0
    (omega (arith, c.loop-place-test.true, length-map c.args.cells.now row_of))
    (omega (arith, fits, length-map c.args.cells.now row_of)) c.loop-place.invariant
    (c.in_ok-push_record.ensures
    ∙ ap (λ (r : ℕ). c.loop-place.writes ++ f (r, c.row_below-first.result + i)) one
    ∙ ap (λ (n : ℕ). c.loop-place.writes ++ f (get_or rows i 0, n + i)) begins)

pub returns : goal.returns
returns g c =
    let sight = g.K.Look.sight c.args.look.now in
    let fields = c.args.fields.now in
    let f = λ (p : ℕ × ℕ). record_written sight fields p.0 p.1 in
    let rows = map row_of c.args.cells.now in
    let first : ℕ = c.args.output.first.row + 1 in
    let room : ℕ = room_of c.args.output in
    rest_none f rows first room c.loop-place.writes
    (c.args.writes.now ++ records_written sight fields rows (numbers_from first room)) c.loop-place.place
    (omega (arith, c.loop-place-test.false, length-map c.args.cells.now row_of)) c.loop-place.invariant
