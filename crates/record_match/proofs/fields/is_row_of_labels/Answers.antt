use Rattle.std.proofs.Common.{ℕ, sym, ap, ◌∙◌, arith}
use Rattle.std.specs.List.{list_all}
use Rattle.grid_address.specs.Place.{width_of}
use Rattle.grid_address.specs.Lines.{at, columns_of}
use Rattle.record_match.specs.Fields.{is_label_at}
use Rattle.grid_address.proofs.Scans.{all_end, all_more, all_stop, left_first}
use Rattle.record_match.proofs.fields.is_row_of_labels.Goals as goal

pub loop-col-init : goal.loop-col-init
loop-col-init g c =
    let f = λ (col : ℕ). is_label_at (g.K.Look.sight c.args.look.now) (at c.args.input.first.row col) in
    ap (list_all f) (left_first c.args.input.first.col (width_of c.args.input))

pub loop-col-preserved : goal.loop-col-preserved
loop-col-preserved g c =
    let sight = g.K.Look.sight c.args.look.now in
    let f = λ (col : ℕ). is_label_at sight (at c.args.input.first.row col) in
    let is = sym (c.is_label_at.ensures ∙ ap (is_label_at sight) c.header.ensures) in
    all_more f c.args.input.first.col (width_of c.args.input) c.loop-col.col (list_all f (columns_of c.args.input))
    (omega (arith, c.loop-col-test.true, c.width-col-end.ensures.width)) (is ∙ c.if-not-is_label_at.false)
    c.loop-col.invariant

pub returns-then-not-is_label_at : goal.returns-then-not-is_label_at
returns-then-not-is_label_at g c =
    let sight = g.K.Look.sight c.args.look.now in
    let f = λ (col : ℕ). is_label_at sight (at c.args.input.first.row col) in
    let is = sym (c.is_label_at.ensures ∙ ap (is_label_at sight) c.header.ensures) in
    all_stop f c.args.input.first.col (width_of c.args.input) c.loop-col.col (list_all f (columns_of c.args.input))
    (omega (arith, c.loop-col-test.true, c.width-col-end.ensures.width)) (is ∙ c.if-not-is_label_at.true)
    c.loop-col.invariant

pub returns : goal.returns
returns g c =
    let f = λ (col : ℕ). is_label_at (g.K.Look.sight c.args.look.now) (at c.args.input.first.row col) in
    all_end f c.args.input.first.col (width_of c.args.input) c.loop-col.col (list_all f (columns_of c.args.input))
    (omega (arith, c.loop-col-test.false, c.width-col-end.ensures.width)) c.loop-col.invariant
