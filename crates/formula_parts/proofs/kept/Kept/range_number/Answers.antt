use Rattle.formula_parts.specs.Lists.{items_in}
use Rattle.formula_parts.specs.Outlook.{cells_of}
use Rattle.formula_parts.specs.inner.Totals.{IsTotal}
use Rattle.formula_parts.proofs.Totalled.{found_by}
use Rattle.formula_parts.proofs.kept.Kept.range_number.Goals as goal

pub returns-clause-number : goal.returns-clause-number
returns-clause-number g c =
    let values = (g.K.Look.sight c.args.look.now).values in
    let total : IsTotal c.add_rest.new.total (items_in values (cells_of c.args.span)) =
    c.add_rest.ensures c.if-not-add_rest.false
    (c.begun-rows.ensures.total values (c.findings-findings.ensures values c.requires)) in
    found_by c.args.function c.add_rest.new.total c.number_for.result values c.args.span total c.number_for.ensures

pub returns-clause-kept : goal.returns-clause-kept
returns-clause-kept g c =
    let values = (g.K.Look.sight c.args.look.now).values in
    c.keep.ensures values (c.findings-findings.ensures values c.requires) (c.add_rest.ensures c.if-not-add_rest.false
    (c.begun-rows.ensures.total values (c.findings-findings.ensures values c.requires)))
