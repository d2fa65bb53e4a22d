use Rattle.std.proofs.Common.{◌≡◌, ◌+◌, refl, subst, arith, ◌∙◌}
use Rattle.grid_address.specs.Place.{width_of}
use Rattle.formula_parts.specs.inner.Totals.{so_far, IsHeld}
use Rattle.formula_parts.proofs.Totalled.{cell_put, row_ended, rows_ended}
use Rattle.formula_parts.proofs.totals.add_narrow.Goals as goal

pub loop-row-preserved-then-col-width : goal.loop-row-preserved-then-col-width
loop-row-preserved-then-col-width g c =
    let values = (g.K.Look.sight c.args.look.now).values in
    let span = c.args.span in
    let row = c.loop-row.row in
    let all : c.loop-row.col + 1 ≡ width_of span = omega (arith, c.if-col-width.true, c.width-width.ensures.width) in
    record {
      rows = omega (arith, c.loop-row-test.true);
      cols = omega (arith, c.width-width.ensures.some);
      ended = λ _. refl;
      added = λ is. subst (IsHeld c.hold_cell.new.held)
          (cell_put values (span.first.row + row) span.first.col c.loop-row.col (so_far values span row) _ _ refl
          c.cell_at.ensures.row c.cell_at.ensures.col ∙ row_ended values span row (c.loop-row.col + 1) all)
          (c.hold_cell.ensures c.if-not-hold_cell.false _ (c.loop-row.invariant.added is));
    }

pub loop-row-preserved : goal.loop-row-preserved
loop-row-preserved g c =
    let values = (g.K.Look.sight c.args.look.now).values in
    let span = c.args.span in
    let row = c.loop-row.row in
    record {
      rows = c.loop-row.invariant.rows;
      cols = omega (arith, c.loop-row.invariant.cols, c.if-col-width.false);
      ended = λ end. omega (arith, end, c.loop-row-test.true);
      added = λ is. subst (IsHeld c.hold_cell.new.held)
          (cell_put values (span.first.row + row) span.first.col c.loop-row.col (so_far values span row) _ _ refl
          c.cell_at.ensures.row c.cell_at.ensures.col)
          (c.hold_cell.ensures c.if-not-hold_cell.false _ (c.loop-row.invariant.added is));
    }

pub returns : goal.returns
returns g c =
    let values = (g.K.Look.sight c.args.look.now).values in
    let all : c.loop-row.row ≡ c.args.to = omega (arith, c.loop-row-test.false, c.loop-row.invariant.rows) in
    let none : c.loop-row.col ≡ 0 = c.loop-row.invariant.ended (omega (arith, c.loop-row-test.false)) in
    λ ok is. c.give_back.ensures ok _ (subst (IsHeld c.loop-row.held)
    (rows_ended values c.args.span c.loop-row.row c.loop-row.col c.args.to all none) (c.loop-row.invariant.added is))
