use Rattle.std.proofs.Common.{◌++◌, subst}
use Rattle.formula_tree.specs.declared.value.Value.{Value}
use Rattle.formula_parts.specs.Lists.{in_range}
use Rattle.formula_parts.specs.inner.Totals.{IsTotal}
use Rattle.formula_parts.proofs.totals.add_other.Goals as goal

pub returns : goal.returns
returns g c = λ added l is.
    subst (λ (v : Value). IsTotal c.add_value.new.total (l ++ in_range v)) c.value.ensures
    (c.add_value.ensures added l is)
