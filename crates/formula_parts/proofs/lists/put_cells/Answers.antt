use Rattle.std.proofs.Common.{◌≡◌, ◌≤◌, ◌++◌, length, List, ap, subst, arith}
use Rattle.std.proofs.lemmas.List.{take_all}
use Rattle.formula_tree.specs.Seen.{seen_value}
use Rattle.grid_address.specs.Place.{Place}
use Rattle.formula_parts.specs.Lists.{items_in}
use Rattle.formula_parts.specs.inner.Totals.{IsTotal}
use Rattle.formula_parts.proofs.Gathered.{cell_next}
use Rattle.formula_parts.proofs.lists.put_cells.Goals as goal

pub loop-cell-preserved : goal.loop-cell-preserved
loop-cell-preserved g c =
    let values = (g.K.Look.sight c.args.look.now).values in
    λ m is.
    subst (IsTotal c.put_value.new.total) (cell_next values c.args.cells.now c.loop-cell.cell-index m c.cell-item.result
    (seen_value c.value.result) c.loop-cell-test.true c.cell-item.is c.value.ensures)
    (c.in_ok-put_value.ensures _ (c.loop-cell.invariant m is))

pub returns : goal.returns
returns g c =
    let values = (g.K.Look.sight c.args.look.now).values in
    let past : length c.args.cells.now ≤ c.loop-cell.cell-index = omega (arith, c.loop-cell-test.false) in
    λ m is. subst (IsTotal c.loop-cell.total)
    (ap (λ (ps : List Place). m ++ items_in values ps) (take_all c.loop-cell.cell-index c.args.cells.now past))
    (c.loop-cell.invariant m is)
