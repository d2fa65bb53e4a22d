use Rattle.std.proofs.Common.{◌≡◌, sym, ap, subst, arith}
use Rattle.grid_address.specs.Place.{height_of}
use Rattle.formula_parts.specs.inner.Totals.{so_far, IsTotal}
use Rattle.formula_parts.proofs.Totalled.{unused_put}
use Rattle.formula_parts.proofs.totals.add_rest.Goals as goal
use Rattle.formula_parts.proofs.totals.add_rest.Goals.{else-not-is_unused-via-then-not-is_unused+else-not-add_rows}
use Rattle.formula_parts.proofs.totals.add_rest.Goals.{else-not-is_unused-via-else-not-is_unused}

pub loop-row-preserved : goal.loop-row-preserved
loop-row-preserved g c =
    let values = (g.K.Look.sight c.args.look.now).values in
    let span = c.args.span in
    let so_far = so_far values span in
    let end = c.band_end-end.result in (
      c.band_end-end.ensures.inside,
      λ is. elim c.else-not-is_unused.branch [
        | else-not-is_unused-via-then-not-is_unused+else-not-add_rows w ↦
            subst (λ t. IsTotal t (so_far end)) (sym w.total-is)
            (w.add_rows.ensures w.if-not-add_rows.false (c.loop-row.invariant.1 is))
        | else-not-is_unused-via-else-not-is_unused w ↦
            subst (λ t. IsTotal t (so_far end)) (sym w.total-is)
            (subst (IsTotal c.loop-row.total)
            (sym (unused_put values span c.rows_of.result c.loop-row.row end c.band_end-end.ensures.behind
            c.rows_of.ensures.first c.rows_of.ensures.last (c.is_unused.ensures w.if-not-is_unused.false)))
            (c.loop-row.invariant.1 is))
      ],
    )

pub returns : goal.returns
returns g c =
    let all : c.loop-row.row ≡ height_of c.args.span =
    omega (arith, c.loop-row-test.false, c.loop-row.invariant.0, c.height-height.ensures.height) in
    λ _ is. subst (IsTotal c.loop-row.total) (ap (so_far (g.K.Look.sight c.args.look.now).values c.args.span) all)
    (c.loop-row.invariant.1 is)
