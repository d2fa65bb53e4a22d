use Rattle.std.proofs.Common.{◌≡◌, ◌-◌}
use Rattle.sheet_shifts.specs.Refusals.{first_in_row, is_marked_at}
use Rattle.sheet_shifts.proofs.Rows.{right_by}
use Rattle.sheet_shifts.proofs.protection.first_in_row.Given as goal

abbrev pub invariant-loop-at : goal.invariant-loop-at
invariant-loop-at l =
    first_in_row (is_marked_at l.store.cells) (l.width - l.at) (right_by l.fn.first l.at)
    ≡ first_in_row (is_marked_at l.store.cells) l.width l.fn.first
