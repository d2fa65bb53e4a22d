use Rattle.std.proofs.Common.{◌<◌, ◌+◌, ◌++◌, ◌∙◌, ℕ, List, drop, ap, sym, append_assoc, append-nil, arith}
use Rattle.std.specs.Prelude.{flat_map}
use Rattle.sheet_store.specs.Grid.{is_hidden, width_of}
use Rattle.wk1_file.specs.Saved.{columns}
use Rattle.wk1_file.proofs.Columns.{next_column, no_column}
use Rattle.sheet_listing.specs.Listed.{column_line}
use Rattle.sheet_listing.proofs.columns.put_columns.Goals as goal

pub loop-col-preserved : goal.loop-col-preserved
loop-col-preserved c =
    let g = c.args.store.now in
    let at = c.loop-col.col in
    let of : ℕ → List ℕ = λ col. column_line col (width_of g col) (is_hidden g col) in
    let less : at < 256 = omega (arith, c.loop-col-test.true) in
    let done = c.in_ok-put_column.ensures ∙ ap (λ w. c.loop-col.into.items ++ column_line at w c.is_hidden.result)
    c.width.ensures.width ∙ ap (λ h. c.loop-col.into.items ++ column_line at (width_of g at) h) c.is_hidden.ensures in
    ap (λ l. l ++ flat_map of (drop (at + 1) columns)) done ∙
    append_assoc c.loop-col.into.items (of at) (flat_map of (drop (at + 1) columns))
    ∙ ap (λ l. c.loop-col.into.items ++ flat_map of l) (sym (next_column at less)) ∙ c.loop-col.invariant

pub returns : goal.returns
returns c =
    let g = c.args.store.now in
    let of : ℕ → List ℕ = λ col. column_line col (width_of g col) (is_hidden g col) in
    sym (append-nil c.loop-col.into.items) ∙
    ap (λ l. c.loop-col.into.items ++ flat_map of l)
    (sym (no_column c.loop-col.col (omega (arith, c.loop-col-test.false)))) ∙ c.loop-col.invariant
