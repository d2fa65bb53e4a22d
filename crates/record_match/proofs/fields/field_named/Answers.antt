use Rattle.std.proofs.Common.{ℕ, Some, sym, ap, ◌∙◌, arith}
use Rattle.std.specs.List.{find}
use Rattle.grid_address.specs.Place.{width_of, Place}
use Rattle.grid_address.specs.Lines.{at}
use Rattle.record_match.specs.Fields.{field_named, label_in, same_label}
use Rattle.grid_address.proofs.Scans.{find_end, find_more, find_stop, left_first}
use Rattle.record_match.proofs.fields.field_named.Goals as goal

pub loop-col-init : goal.loop-col-init
loop-col-init g c =
    let contents = (g.K.Look.sight c.args.look.now).contents in
    let f =
    λ (col : ℕ). same_label (label_in (contents c.args.name)) (label_in (contents (at c.args.input.first.row col))) in
    ap (find f) (left_first c.args.input.first.col (width_of c.args.input))

pub loop-col-preserved : goal.loop-col-preserved
loop-col-preserved g c =
    let sight = g.K.Look.sight c.args.look.now in
    let f =
    λ (col : ℕ). same_label (label_in (sight.contents c.args.name))
    (label_in (sight.contents (at c.args.input.first.row col))) in
    let is =
    sym (c.same_label.ensures
    ∙ ap (λ (p : Place). same_label (label_in (sight.contents c.args.name)) (label_in (sight.contents p)))
    c.header.ensures) in
    find_more f c.args.input.first.col (width_of c.args.input) c.loop-col.col
    (field_named sight c.args.input c.args.name) (omega (arith, c.loop-col-test.true, c.width-col-end.ensures.width))
    (is ∙ c.if-same_label.false) c.loop-col.invariant

pub returns-then-same_label : goal.returns-then-same_label
returns-then-same_label g c =
    let sight = g.K.Look.sight c.args.look.now in
    let f =
    λ (col : ℕ). same_label (label_in (sight.contents c.args.name))
    (label_in (sight.contents (at c.args.input.first.row col))) in
    let is =
    sym (c.same_label.ensures
    ∙ ap (λ (p : Place). same_label (label_in (sight.contents c.args.name)) (label_in (sight.contents p)))
    c.header.ensures) in
    ap Some c.column_at.ensures
    ∙ find_stop f c.args.input.first.col (width_of c.args.input) c.loop-col.col
    (field_named sight c.args.input c.args.name) (omega (arith, c.loop-col-test.true, c.width-col-end.ensures.width))
    (is ∙ c.if-same_label.true) c.loop-col.invariant

pub returns : goal.returns
returns g c =
    let sight = g.K.Look.sight c.args.look.now in
    let f =
    λ (col : ℕ). same_label (label_in (sight.contents c.args.name))
    (label_in (sight.contents (at c.args.input.first.row col))) in
    find_end f c.args.input.first.col (width_of c.args.input) c.loop-col.col
    (field_named sight c.args.input c.args.name) (omega (arith, c.loop-col-test.false, c.width-col-end.ensures.width))
    c.loop-col.invariant
