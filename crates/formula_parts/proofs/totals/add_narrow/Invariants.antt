use Rattle.std.proofs.Common.{◌≡◌, ◌≤◌, ◌<◌, ◌+◌, ◌-◌, ◌*◌, ◌++◌}
use Rattle.formula_parts.specs.Lists.{items_in}
use Rattle.formula_parts.specs.Outlook.{row_cells}
use Rattle.formula_parts.specs.inner.Totals.{so_far, IsHeld, IsTotal}
use Rattle.formula_parts.proofs.totals.add_narrow.Given as goal

abbrev pub invariant-loop-row : goal.invariant-loop-row
invariant-loop-row g l =
    let values = (g.K.Look.sight l.look).values in
    let s = l.span in
    let in_row = items_in values (row_cells (s.first.row + l.row) s.first.col l.col) in
    record {
      rows : l.row ≤ l.to;
      cols : l.col < l.width;
      ended : l.to ≤ l.row → l.col ≡ 0;
      added : IsTotal l.fn.total (so_far values s l.from) → IsHeld l.held (so_far values s l.row ++ in_row);
    }

abbrev pub decreases-loop-row : goal.decreases-loop-row
decreases-loop-row g l = (l.to - l.row) * 256 + 256 - l.col
