use Rattle.std.proofs.Common.{ℕ, ◌<◌, ◌≡◌, length, ap, ◌∙◌, arith}
use Rattle.std.specs.List.{list_all}
use Rattle.grid_address.specs.Place.{width_of}
use Rattle.formula_parts.specs.Scenes.{outlook_of}
use Rattle.grid_address.specs.Lines.{at}
use Rattle.record_match.specs.Criteria.{holds_at, row_holds}
use Rattle.record_match.specs.Fields.{field_named}
use Rattle.record_match.proofs.Held.{held}
use Rattle.grid_address.proofs.Scans.{all_end, all_more, all_stop, left_first, made_count}
use Rattle.record_match.proofs.criteria.row_holds.Goals as goal

pub bounds-fields-from : goal.bounds-fields-from
bounds-fields-from g c =
    let sight = g.K.Look.sight c.args.look.now in
    let many : length c.args.fields.now ≡ width_of c.args.query.now.criterion =
    ap length c.requires.fields
    ∙ made_count (λ (col : ℕ). field_named sight c.args.query.now.input (at c.args.query.now.criterion.first.row col))
    c.args.query.now.criterion.first.col (width_of c.args.query.now.criterion) in
    omega (arith, c.loop-col-test.true, c.width-col-end.ensures.width, c.from.ensures, many)

pub loop-col-init : goal.loop-col-init
loop-col-init g c =
    let outlook = outlook_of (g.K.Look.sight c.args.look.now) c.args.scene.now in
    let input = c.args.query.now.input in
    let criterion = c.args.query.now.criterion in
    let f = λ (col : ℕ). holds_at outlook input criterion c.args.row (at c.args.conditions col) in
    ap (list_all f) (left_first criterion.first.col (width_of criterion))

pub loop-col-preserved : goal.loop-col-preserved
loop-col-preserved g c =
    let outlook = outlook_of (g.K.Look.sight c.args.look.now) c.args.scene.now in
    let input = c.args.query.now.input in
    let criterion = c.args.query.now.criterion in
    let f = λ (col : ℕ). holds_at outlook input criterion c.args.row (at c.args.conditions col) in
    let inside : c.loop-col.col < width_of criterion =
    omega (arith, c.loop-col-test.true, c.width-col-end.ensures.width) in
    let indexed : c.from.result ≡ c.loop-col.col = omega (arith, c.from.ensures) in
    let is =
    held outlook input criterion c.args.fields.now c.args.row c.args.conditions c.loop-col.col c.column_at.result
    c.rows_behind-count.result c.from.result _ c.in_ok-held.held c.requires.fields inside c.column_at.ensures
    c.rows_behind-count.ensures indexed c.in_ok-held.ensures in
    all_more f criterion.first.col (width_of criterion) c.loop-col.col
    (row_holds outlook input criterion c.args.row c.args.conditions) inside (is ∙ c.if-not-held.false)
    c.loop-col.invariant

pub returns-then-not-held : goal.returns-then-not-held
returns-then-not-held g c =
    let outlook = outlook_of (g.K.Look.sight c.args.look.now) c.args.scene.now in
    let input = c.args.query.now.input in
    let criterion = c.args.query.now.criterion in
    let f = λ (col : ℕ). holds_at outlook input criterion c.args.row (at c.args.conditions col) in
    let inside : c.loop-col.col < width_of criterion =
    omega (arith, c.loop-col-test.true, c.width-col-end.ensures.width) in
    let indexed : c.from.result ≡ c.loop-col.col = omega (arith, c.from.ensures) in
    let is =
    held outlook input criterion c.args.fields.now c.args.row c.args.conditions c.loop-col.col c.column_at.result
    c.rows_behind-count.result c.from.result _ c.in_ok-held.held c.requires.fields inside c.column_at.ensures
    c.rows_behind-count.ensures indexed c.in_ok-held.ensures in
    all_stop f criterion.first.col (width_of criterion) c.loop-col.col
    (row_holds outlook input criterion c.args.row c.args.conditions) inside (is ∙ c.if-not-held.true)
    c.loop-col.invariant

pub returns : goal.returns
returns g c =
    let outlook = outlook_of (g.K.Look.sight c.args.look.now) c.args.scene.now in
    let input = c.args.query.now.input in
    let criterion = c.args.query.now.criterion in
    let f = λ (col : ℕ). holds_at outlook input criterion c.args.row (at c.args.conditions col) in
    all_end f criterion.first.col (width_of criterion) c.loop-col.col
    (row_holds outlook input criterion c.args.row c.args.conditions)
    (omega (arith, c.loop-col-test.false, c.width-col-end.ensures.width)) c.loop-col.invariant
