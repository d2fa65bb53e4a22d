use Rattle.std.proofs.Common.{◌++◌, subst, sym}
use Rattle.formula_tree.specs.declared.value.Value.{Value}
use Rattle.formula_parts.specs.Lists.{in_range}
use Rattle.formula_parts.specs.inner.Totals.{IsTotal}
use Rattle.formula_parts.proofs.totals.add_cell.Goals as goal

pub returns-in-Some : goal.returns-in-Some
returns-in-Some g c = λ added l is.
    subst (λ (v : Value). IsTotal c.add_item.new.total (l ++ in_range v)) (sym c.in-Some.ensures.some)
    (c.add_item.ensures added l is)
