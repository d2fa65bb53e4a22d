use Rattle.std.proofs.Common.{◌≡◌, ◌+◌, ◌-◌, map}
use Rattle.std.specs.List.{flat_map}
use Rattle.block_writes.specs.Writing.{at}
use Rattle.command_desk.specs.Acting.{first_protected}
use Rattle.commands_data.specs.TableCommands.{answer_cells}
use Rattle.data_blocks.specs.Tables.{columns_behind}
use Rattle.grid_address.proofs.Scans.{left}
use Rattle.work_sheet.specs.Seen.{of_worksheet}
use Rattle.commands_data.proofs.protection.protected_answer.Given as goal

abbrev pub invariant-loop-place : goal.invariant-loop-place
invariant-loop-place l = let s = of_worksheet l.sheet in
    (first_protected (flat_map (λ row. map (at row) (columns_behind l.span))
    (left (l.span.first.row + 1) (l.span.last.row - l.span.first.row) l.place)) s
    ≡ first_protected (answer_cells l.span) s)
    × (l.count ≡ l.span.last.row - l.span.first.row)
