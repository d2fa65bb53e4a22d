use Rattle.std.proofs.Common.{ℕ, ◌≡◌, ◌+◌, ◌++◌, get_or, map, sym, ap, ◌∙◌, arith}
use Rattle.std.proofs.lemmas.List.{get_or-map, length-map}
use Rattle.grid_address.specs.Place.{height_of, Place}
use Rattle.block_writes.specs.Writing.{columns_of, row_copied, rows_copied, rows_of}
use Rattle.block_writes.proofs.Rows.{rest_none, rest_step}
use Rattle.block_writes.proofs.copies.rows_copied.Goals as goal

pub loop-place-preserved : goal.loop-place-preserved
loop-place-preserved g c =
    let sight = g.K.Look.sight c.args.look.now in
    let f = λ (p : ℕ × ℕ). row_copied sight (columns_of c.args.span) p.0 p.1 in
    let row = λ (p : Place). p.row in
    let rows = map row c.args.cells.now in
    let i = c.loop-place.place in
    let from = c.index-cells-place.result in
    let one : from.row ≡ get_or rows i 0 =
    ap row c.index-cells-place.is ∙ sym (get_or-map row c.args.cells.now i from 0 c.loop-place-test.true) in
    rest_step f rows c.args.span.first.row (height_of c.args.span) c.loop-place.writes c.push_row.new.writes
    (rows_copied sight (columns_of c.args.span) rows (rows_of c.args.span)) i 0
    (omega (arith, c.loop-place-test.true, length-map c.args.cells.now row))
    (omega (arith, c.requires, length-map c.args.cells.now row)) c.loop-place.invariant
    (c.in_ok-push_row.ensures ∙ ap (λ (p : Place). c.loop-place.writes ++ f (from.row, p.row)) c.below.ensures
    ∙ ap (λ (r : ℕ). c.loop-place.writes ++ f (r, c.args.span.first.row + i)) one)

pub returns : goal.returns
returns g c =
    let sight = g.K.Look.sight c.args.look.now in
    let f = λ (p : ℕ × ℕ). row_copied sight (columns_of c.args.span) p.0 p.1 in
    let row = λ (p : Place). p.row in
    let rows = map row c.args.cells.now in
    rest_none f rows c.args.span.first.row (height_of c.args.span) c.loop-place.writes
    (rows_copied sight (columns_of c.args.span) rows (rows_of c.args.span)) c.loop-place.place
    (omega (arith, c.loop-place-test.false, length-map c.args.cells.now row)) c.loop-place.invariant
