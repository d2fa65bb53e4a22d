use Rattle.std.proofs.Common.{◌≡◌, ◌+◌, ◌++◌, ap, refl, subst, arith}
use Rattle.grid_address.specs.Place.{width_of}
use Rattle.formula_parts.specs.Lists.{items_in}
use Rattle.formula_parts.specs.Outlook.{row_cells}
use Rattle.formula_parts.specs.inner.Totals.{IsTotal}
use Rattle.formula_parts.proofs.Totalled.{cell_put, none_put}
use Rattle.formula_parts.proofs.totals.add_row.Goals as goal

pub loop-col-init : goal.loop-col-init
loop-col-init g c =
    let values = (g.K.Look.sight c.args.look.now).values in
    let span = c.args.span in
    λ m is. subst (IsTotal c.args.total.now) (none_put values (span.first.row + c.args.row) span.first.col m) is

pub loop-col-preserved : goal.loop-col-preserved
loop-col-preserved g c =
    let values = (g.K.Look.sight c.args.look.now).values in
    let span = c.args.span in
    λ m is.
    subst (IsTotal c.add_cell.new.total) (cell_put values (span.first.row + c.args.row) span.first.col c.loop-col.col m
    _ _ refl c.cell_at.ensures.row c.cell_at.ensures.col)
    (c.add_cell.ensures c.if-not-add_cell.false _ (c.loop-col.invariant m is))

pub returns : goal.returns
returns g c =
    let values = (g.K.Look.sight c.args.look.now).values in
    let span = c.args.span in
    let all : c.loop-col.col ≡ width_of span =
    omega (arith, c.loop-col-test.false, c.loop-col.auto.col-end, c.width-col-end.ensures.width) in
    λ _ m is. subst (IsTotal c.loop-col.total)
    (ap (λ n. m ++ items_in values (row_cells (span.first.row + c.args.row) span.first.col n)) all)
    (c.loop-col.invariant m is)
