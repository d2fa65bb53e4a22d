use Rattle.std.proofs.Common.{◌+◌, ◌++◌, List}
use Rattle.formula_parts.specs.declared.items.Item.{Item}
use Rattle.formula_parts.specs.Lists.{items_in}
use Rattle.formula_parts.specs.Outlook.{row_cells}
use Rattle.formula_parts.specs.inner.Totals.{IsTotal}
use Rattle.formula_parts.proofs.totals.add_row.Given as goal

abbrev pub invariant-loop-col : goal.invariant-loop-col
invariant-loop-col g l =
    (m : List Item) → IsTotal l.fn.total m
    → IsTotal l.total
    (m ++ items_in (g.K.Look.sight l.look).values (row_cells (l.span.first.row + l.row) l.span.first.col l.col))
