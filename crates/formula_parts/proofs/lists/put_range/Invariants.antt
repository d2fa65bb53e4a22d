use Rattle.std.proofs.Common.{◌≤◌, ◌-◌, ◌++◌, List}
use Rattle.grid_address.specs.Place.{height_of}
use Rattle.formula_parts.specs.declared.items.Item.{Item}
use Rattle.formula_parts.specs.inner.Totals.{so_far, IsTotal}
use Rattle.formula_parts.proofs.lists.put_range.Given as goal

abbrev pub invariant-loop-row : goal.invariant-loop-row
invariant-loop-row g l =
    let so_far = so_far (g.K.Look.sight l.look).values l.span in
    (l.row ≤ height_of l.span) × ((m : List Item) → IsTotal l.fn.total m → IsTotal l.total (m ++ so_far l.row))

abbrev pub decreases-loop-row : goal.decreases-loop-row
decreases-loop-row g l = height_of l.span - l.row
