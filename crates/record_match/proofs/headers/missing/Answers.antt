use Rattle.std.proofs.Common.{Some, sym, ap, ◌∙◌, arith}
use Rattle.std.specs.List.{find}
use Rattle.grid_address.specs.Place.{width_of}
use Rattle.record_match.specs.Criteria.{is_missing, missing}
use Rattle.grid_address.proofs.Scans.{find_end, find_more, find_stop, left_first}
use Rattle.record_match.proofs.headers.missing.Goals as goal

pub loop-col-init : goal.loop-col-init
loop-col-init g c =
    ap (find (is_missing (g.K.Look.sight c.args.look.now) c.args.input c.args.criterion))
    (left_first c.args.criterion.first.col (width_of c.args.criterion))

pub loop-col-preserved : goal.loop-col-preserved
loop-col-preserved g c =
    let sight = g.K.Look.sight c.args.look.now in
    find_more (is_missing sight c.args.input c.args.criterion) c.args.criterion.first.col (width_of c.args.criterion)
    c.loop-col.col (missing sight c.args.input c.args.criterion)
    (omega (arith, c.loop-col-test.true, c.width-col-end.ensures.width))
    (sym c.is_missing.ensures ∙ c.if-is_missing.false) c.loop-col.invariant

pub returns-then-is_missing : goal.returns-then-is_missing
returns-then-is_missing g c =
    let sight = g.K.Look.sight c.args.look.now in
    ap Some c.column_at.ensures
    ∙ find_stop (is_missing sight c.args.input c.args.criterion) c.args.criterion.first.col (width_of c.args.criterion)
    c.loop-col.col (missing sight c.args.input c.args.criterion)
    (omega (arith, c.loop-col-test.true, c.width-col-end.ensures.width))
    (sym c.is_missing.ensures ∙ c.if-is_missing.true) c.loop-col.invariant

pub returns : goal.returns
returns g c =
    let sight = g.K.Look.sight c.args.look.now in
    find_end (is_missing sight c.args.input c.args.criterion) c.args.criterion.first.col (width_of c.args.criterion)
    c.loop-col.col (missing sight c.args.input c.args.criterion)
    (omega (arith, c.loop-col-test.false, c.width-col-end.ensures.width)) c.loop-col.invariant
