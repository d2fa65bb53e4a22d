use Rattle.std.proofs.Common.{◌++◌, List, take}
use Rattle.formula_parts.specs.declared.items.Item.{Item}
use Rattle.formula_parts.specs.Lists.{items_in}
use Rattle.formula_parts.specs.inner.Totals.{IsTotal}
use Rattle.formula_parts.proofs.lists.put_cells.Given as goal

abbrev pub invariant-loop-cell : goal.invariant-loop-cell
invariant-loop-cell g l =
    (m : List Item) → IsTotal l.fn.total m
    → IsTotal l.total (m ++ items_in (g.K.Look.sight l.look).values (take l.cell-index l.cells))
