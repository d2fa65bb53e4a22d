use Rattle.std.proofs.Common.{sym, ◌∙◌}
use Rattle.formula_parts.proofs.kept.beside.Goals as goal

pub returns : goal.returns
returns c = (c.in_ok-column.was, sym c.contains.ensures ∙ c.if-contains.false)
