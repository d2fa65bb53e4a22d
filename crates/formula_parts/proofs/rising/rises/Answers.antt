use Rattle.std.proofs.Common.{◌≡◌, ◌+◌, sym, ap, subst, ◌∙◌, arith}
use Rattle.grid_address.specs.Place.{height_of}
use Rattle.formula_parts.specs.inner.Kept.{RisesTo}
use Rattle.formula_parts.proofs.Ascent.{above_more, rises_more}
use Rattle.formula_parts.proofs.Totalled.{same_cell}
use Rattle.formula_parts.proofs.rising.rises.Goals as goal

pub loop-row-init : goal.loop-row-init
loop-row-init g c = record {
  rising = λ x i j up inside. absurd (omega arith);
  above = λ x i inside. absurd (omega arith);
}

pub loop-row-preserved : goal.loop-row-preserved
loop-row-preserved g c =
    let values = (g.K.Look.sight c.args.look.now).values in
    let span = c.args.span in
    let there =
    ap values (sym (same_cell c.cell_at.result (span.first.row + c.loop-row.row) (span.first.col + 0)
    c.cell_at.ensures.row c.cell_at.ensures.col))
    ∙ sym c.value.ensures ∙ c.in-Some.ensures.number in
    record {
      rising =
          rises_more values span c.loop-row.row c.loop-row.low c.in-Some.number there c.in-Some.ensures.above
          c.loop-row.invariant.above c.loop-row.invariant.rising;
      above =
          above_more values span c.loop-row.row c.loop-row.low c.in-Some.number there c.in-Some.ensures.above
          c.loop-row.invariant.above;
    }

pub returns : goal.returns
returns g c =
    let all : c.loop-row.row ≡ height_of c.args.span =
    omega (arith, c.loop-row-test.false, c.loop-row.auto.row-end, c.height-row-end.ensures.height) in
    λ _. subst (RisesTo (g.K.Look.sight c.args.look.now).values c.args.span) all c.loop-row.invariant.rising
