use Rattle.std.proofs.Common.{◌+◌, ◌-◌, sym, ap, ◌∙◌, arith}
use Rattle.std.specs.List.{list_any}
use Rattle.formula_parts.specs.Scenes.{outlook_of}
use Rattle.record_match.specs.Criteria.{record_matches, row_holds}
use Rattle.grid_address.proofs.Scans.{any_end, any_more, any_stop, left_first}
use Rattle.record_match.proofs.criteria.record_matches.Goals as goal

pub loop-place-init : goal.loop-place-init
loop-place-init g c =
    let outlook = outlook_of (g.K.Look.sight c.args.look.now) c.args.scene.now in
    let criterion = c.args.query.now.criterion in
    let f = row_holds outlook c.args.query.now.input criterion c.args.row in
    ap (list_any f) (left_first (criterion.first.row + 1) (criterion.last.row - criterion.first.row))

pub loop-place-preserved : goal.loop-place-preserved
loop-place-preserved g c =
    let outlook = outlook_of (g.K.Look.sight c.args.look.now) c.args.scene.now in
    let criterion = c.args.query.now.criterion in
    let f = row_holds outlook c.args.query.now.input criterion c.args.row in
    let is = sym (c.in_ok-found.ensures ∙ ap f c.row_below-conditions.ensures.row) in
    any_more f (criterion.first.row + 1) (criterion.last.row - criterion.first.row) c.loop-place.place
    (record_matches outlook c.args.query.now.input criterion c.args.row)
    (omega (arith, c.loop-place-test.true, c.count_below-place-end.ensures.count)) (is ∙ c.if-found.false)
    c.loop-place.invariant

pub returns-then-found : goal.returns-then-found
returns-then-found g c =
    let outlook = outlook_of (g.K.Look.sight c.args.look.now) c.args.scene.now in
    let criterion = c.args.query.now.criterion in
    let f = row_holds outlook c.args.query.now.input criterion c.args.row in
    let is = sym (c.in_ok-found.ensures ∙ ap f c.row_below-conditions.ensures.row) in
    any_stop f (criterion.first.row + 1) (criterion.last.row - criterion.first.row) c.loop-place.place
    (record_matches outlook c.args.query.now.input criterion c.args.row)
    (omega (arith, c.loop-place-test.true, c.count_below-place-end.ensures.count)) (is ∙ c.if-found.true)
    c.loop-place.invariant

pub returns : goal.returns
returns g c =
    let outlook = outlook_of (g.K.Look.sight c.args.look.now) c.args.scene.now in
    let criterion = c.args.query.now.criterion in
    let f = row_holds outlook c.args.query.now.input criterion c.args.row in
    any_end f (criterion.first.row + 1) (criterion.last.row - criterion.first.row) c.loop-place.place
    (record_matches outlook c.args.query.now.input criterion c.args.row)
    (omega (arith, c.loop-place-test.false, c.count_below-place-end.ensures.count)) c.loop-place.invariant
