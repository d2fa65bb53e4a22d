use Rattle.std.proofs.Common.{ℕ, ◌+◌, ◌-◌, sym, ap, ◌∙◌, arith}
use Rattle.std.specs.List.{list_any}
use Rattle.grid_address.specs.Lines.{at, rows_below}
use Rattle.record_match.specs.Criteria.{asks_field}
use Rattle.grid_address.proofs.Scans.{any_end, any_more, any_stop, left_first}
use Rattle.record_match.proofs.headers.is_asked_below.Goals as goal

pub loop-place-init : goal.loop-place-init
loop-place-init g c =
    let contents = (g.K.Look.sight c.args.look.now).contents in
    let criterion = c.args.criterion in
    let f = λ (row : ℕ). asks_field (contents (at row c.args.col)) in
    ap (list_any f) (left_first (criterion.first.row + 1) (criterion.last.row - criterion.first.row))

pub loop-place-preserved : goal.loop-place-preserved
loop-place-preserved g c =
    let contents = (g.K.Look.sight c.args.look.now).contents in
    let criterion = c.args.criterion in
    let f = λ (row : ℕ). asks_field (contents (at row c.args.col)) in
    let is = sym (c.asks_field.ensures ∙ ap f c.row_below-row.ensures.row) in
    any_more f (criterion.first.row + 1) (criterion.last.row - criterion.first.row) c.loop-place.place
    (list_any f (rows_below criterion)) (omega (arith, c.loop-place-test.true, c.count_below-place-end.ensures.count))
    (is ∙ c.if-asks_field.false) c.loop-place.invariant

pub returns-then-asks_field : goal.returns-then-asks_field
returns-then-asks_field g c =
    let contents = (g.K.Look.sight c.args.look.now).contents in
    let criterion = c.args.criterion in
    let f = λ (row : ℕ). asks_field (contents (at row c.args.col)) in
    let is = sym (c.asks_field.ensures ∙ ap f c.row_below-row.ensures.row) in
    any_stop f (criterion.first.row + 1) (criterion.last.row - criterion.first.row) c.loop-place.place
    (list_any f (rows_below criterion)) (omega (arith, c.loop-place-test.true, c.count_below-place-end.ensures.count))
    (is ∙ c.if-asks_field.true) c.loop-place.invariant

pub returns : goal.returns
returns g c =
    let contents = (g.K.Look.sight c.args.look.now).contents in
    let criterion = c.args.criterion in
    let f = λ (row : ℕ). asks_field (contents (at row c.args.col)) in
    any_end f (criterion.first.row + 1) (criterion.last.row - criterion.first.row) c.loop-place.place
    (list_any f (rows_below criterion)) (omega (arith, c.loop-place-test.false, c.count_below-place-end.ensures.count))
    c.loop-place.invariant
