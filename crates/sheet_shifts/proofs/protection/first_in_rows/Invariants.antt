use Rattle.std.proofs.Common.{◌≡◌, ◌-◌}
use Rattle.sheet_shifts.specs.Refusals.{first_in_rows, is_marked_at}
use Rattle.sheet_shifts.proofs.Rows.{down_by}
use Rattle.sheet_shifts.proofs.protection.first_in_rows.Given as goal

abbrev pub invariant-loop-at : goal.invariant-loop-at
invariant-loop-at l =
    first_in_rows (is_marked_at l.store.cells) (l.height - l.at) l.width (down_by l.fn.first l.at)
    ≡ first_in_rows (is_marked_at l.store.cells) l.height l.width l.fn.first
