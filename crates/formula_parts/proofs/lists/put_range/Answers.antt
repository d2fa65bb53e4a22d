use Rattle.std.proofs.Common.{◌≡◌, ◌++◌, List, sym, ap, subst, ◌∙◌, append_assoc, arith}
use Rattle.grid_address.specs.Place.{height_of}
use Rattle.formula_parts.specs.declared.items.Item.{Item}
use Rattle.formula_parts.specs.Lists.{items_in}
use Rattle.formula_parts.specs.Outlook.{cells_of}
use Rattle.formula_parts.specs.inner.Totals.{so_far, IsTotal}
use Rattle.formula_parts.proofs.Totalled.{rows_put, unfiltered}
use Rattle.formula_parts.proofs.lists.put_range.Goals as goal

pub loop-row-preserved : goal.loop-row-preserved
loop-row-preserved g c =
    let values = (g.K.Look.sight c.args.look.now).values in
    let span = c.args.span in
    let row = c.loop-row.row in
    let end = c.band_end-end.result in
    let rows = c.rows_of.result in (
      c.band_end-end.ensures.inside,
      λ m is. subst (IsTotal c.put_rows.new.total)
          (append_assoc m (so_far values span row) (items_in values (cells_of rows))
          ∙ ap (λ (l : List Item). m ++ l) (rows_put values span rows row end c.band_end-end.ensures.behind
          c.rows_of.ensures.first c.rows_of.ensures.last))
          (c.in_ok-put_rows.ensures _ (c.loop-row.invariant.1 m is)),
    )

pub returns : goal.returns
returns g c =
    let values = (g.K.Look.sight c.args.look.now).values in
    let span = c.args.span in
    let all : c.loop-row.row ≡ height_of span =
    omega (arith, c.loop-row-test.false, c.loop-row.invariant.0, c.height-height.ensures.height) in
    λ m is. subst (IsTotal c.loop-row.total)
    (ap (λ (l : List Item). m ++ l) (ap (so_far values span) all ∙ sym (unfiltered values (cells_of span))))
    (c.loop-row.invariant.1 m is)
