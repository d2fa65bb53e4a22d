use Rattle.std.proofs.Common.{◌≡◌, suc, ◌+◌, ◌-◌, false, sym, ap, ◌∙◌, arith}
use Rattle.formula_parts.specs.Lookups.{by_passed}
use Rattle.formula_parts.proofs.Totalled.{same_cell}
use Rattle.formula_parts.proofs.rising.number_beside.Goals as goal

pub returns-in-Num : goal.returns-in-Num
returns-in-Num g c =
    let values = (g.K.Look.sight c.args.look.now).values in
    let span = c.args.span in
    let passed = c.passed_rows-passed.result in
    let some : passed ≡ suc (passed - 1) = omega (arith, c.if-passed-eq0.false) in
    ap (by_passed values false span c.args.place) (sym c.passed_rows-passed.ensures.passed ∙ some)
    ∙ ap values (sym (same_cell c.cell_at.result (span.first.row + (passed - 1)) (span.first.col + c.args.place)
    c.cell_at.ensures.row c.cell_at.ensures.col))
    ∙ sym c.in-Num.ensures
