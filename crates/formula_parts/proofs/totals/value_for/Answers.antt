use Rattle.std.proofs.Common.{◌∙◌}
use Rattle.formula_parts.proofs.Totalled.{value_for}
use Rattle.formula_parts.proofs.totals.value_for.Goals as goal

pub returns : goal.returns
returns c = λ l is. c.value_by.ensures ∙ value_for c.args.function c.args.total.now l is
