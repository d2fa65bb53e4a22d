use Rattle.std.proofs.Common.{◌≡◌, ◌+◌, ◌-◌, map}
use Rattle.block_writes.specs.Writing.{at}
use Rattle.command_desk.specs.Acting.{first_protected}
use Rattle.data_blocks.specs.Tables.{columns_behind}
use Rattle.grid_address.proofs.Scans.{left}
use Rattle.work_sheet.specs.Seen.{of_worksheet}
use Rattle.commands_data.proofs.protection.protected_in_row.Given as goal

abbrev pub invariant-loop-place : goal.invariant-loop-place
invariant-loop-place l = let s = of_worksheet l.sheet in
    (first_protected (map (at l.row) (left (l.span.first.col + 1) (l.span.last.col - l.span.first.col) l.place)) s
    ≡ first_protected (map (at l.row) (columns_behind l.span)) s)
    × (l.count ≡ l.span.last.col - l.span.first.col)
