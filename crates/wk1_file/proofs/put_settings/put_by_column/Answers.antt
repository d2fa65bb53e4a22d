use Rattle.std.proofs.Common.{◌≡◌, ◌≤◌, ◌<◌, ◌+◌, ◌++◌, ◌∙◌, ℕ, List, get_or, drop, ap, sym, subst, arith}
use Rattle.std.specs.Prelude.{Option}
use Rattle.std.specs.Option.{ForSome}
use Rattle.sheet_store.specs.Grid.{width_of}
use Rattle.wk1_records.specs.Records.{pieces_bytes}
use Rattle.wk1_file.specs.Saved.{columns, width_piece, width_pieces}
use Rattle.wk1_file.proofs.Columns.{most_of, next_column, no_column, own_most}
use Rattle.wk1_file.proofs.Writing.{all_bytes, all_good, begun, bytes_each, one_more}
use Rattle.wk1_file.proofs.put_settings.put_by_column.Goals as goal

pub loop-col-init : goal.loop-col-init
loop-col-init c =
    begun (λ col. pieces_bytes (width_piece col (width_of c.args.store.now col)))
    (λ col. get_or c.args.store.now.widths col 0 ≤ 240) c.args.into.now.items columns

pub loop-col-preserved : goal.loop-col-preserved
loop-col-preserved c =
    let g = c.args.store.now in
    let at = c.loop-col.col in
    let less : at < 256 = omega (arith, c.loop-col-test.true) in
    let within =
    subst (λ (o : Option ℕ). ForSome o (λ m. (1 ≤ m) × (m ≤ 240))) c.width.ensures.width c.width.ensures.within in
    one_more (λ col. pieces_bytes (width_piece col (width_of g col))) (λ col. get_or g.widths col 0 ≤ 240)
    c.args.into.now.items c.loop-col.into.items c.put_width.new.into.items at
    (drop (at + 1) columns) (drop at columns) columns c.loop-col.invariant (next_column at less)
    (c.in_ok-put_width.ensures
    ∙ ap (λ w. c.loop-col.into.items ++ pieces_bytes (width_piece at w)) c.width.ensures.width)
    (own_most (get_or g.widths at 0) within)

pub returns-clause-bytes : goal.returns-clause-bytes
returns-clause-bytes c =
    let g = c.args.store.now in
    let none = no_column c.loop-col.col (omega (arith, c.loop-col-test.false)) in
    all_bytes (λ col. pieces_bytes (width_piece col (width_of g col))) (λ col. get_or g.widths col 0 ≤ 240)
    c.args.into.now.items c.loop-col.into.items (drop c.loop-col.col columns) columns none c.loop-col.invariant
    ∙ ap (λ l. c.args.into.now.items ++ l) (sym (bytes_each (λ col. width_piece col (width_of g col)) columns))

pub returns-clause-most : goal.returns-clause-most
returns-clause-most c =
    let g = c.args.store.now in
    let none = no_column c.loop-col.col (omega (arith, c.loop-col-test.false)) in
    most_of g.widths c.are_columns.ensures.widths
    (all_good (λ col. pieces_bytes (width_piece col (width_of g col))) (λ col. get_or g.widths col 0 ≤ 240)
    c.args.into.now.items c.loop-col.into.items (drop c.loop-col.col columns) columns none c.loop-col.invariant)
