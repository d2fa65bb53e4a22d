use Rattle.std.proofs.Common.{Some, sym, ap, ◌∙◌, arith}
use Rattle.std.specs.List.{find}
use Rattle.grid_address.specs.Place.{width_of}
use Rattle.data_query.specs.Extraction.{is_unknown, unknown_label}
use Rattle.grid_address.proofs.Scans.{find_end, find_more, find_stop, left_first}
use Rattle.data_query.proofs.output.unknown_label.Goals as goal

pub loop-col-init : goal.loop-col-init
loop-col-init g c =
    ap (find (is_unknown (g.K.Look.sight c.args.look.now) c.args.input c.args.output))
    (left_first c.args.output.first.col (width_of c.args.output))

pub loop-col-preserved : goal.loop-col-preserved
loop-col-preserved g c =
    let sight = g.K.Look.sight c.args.look.now in
    find_more (is_unknown sight c.args.input c.args.output) c.args.output.first.col (width_of c.args.output)
    c.loop-col.col (unknown_label sight c.args.input c.args.output)
    (omega (arith, c.loop-col-test.true, c.width-col-end.ensures.width))
    (sym c.is_unknown.ensures ∙ c.if-is_unknown.false) c.loop-col.invariant

pub returns-then-is_unknown : goal.returns-then-is_unknown
returns-then-is_unknown g c =
    let sight = g.K.Look.sight c.args.look.now in
    ap Some c.column_at.ensures
    ∙ find_stop (is_unknown sight c.args.input c.args.output) c.args.output.first.col (width_of c.args.output)
    c.loop-col.col (unknown_label sight c.args.input c.args.output)
    (omega (arith, c.loop-col-test.true, c.width-col-end.ensures.width))
    (sym c.is_unknown.ensures ∙ c.if-is_unknown.true) c.loop-col.invariant

pub returns : goal.returns
returns g c =
    let sight = g.K.Look.sight c.args.look.now in
    find_end (is_unknown sight c.args.input c.args.output) c.args.output.first.col (width_of c.args.output)
    c.loop-col.col (unknown_label sight c.args.input c.args.output)
    (omega (arith, c.loop-col-test.false, c.width-col-end.ensures.width)) c.loop-col.invariant
