use Rattle.std.proofs.Common.{◌≡◌, ◌+◌, ◌-◌}
use Rattle.std.specs.List.{range_with_len}
use Rattle.commands_worksheet.specs.Commands.{all_hidden, columns_of}
use Rattle.commands_worksheet.proofs.columns.hide_columns.Given as goal

-- the columns that are still to come make of this sheet what all make of the first
abbrev pub invariant-loop-col : goal.invariant-loop-col
invariant-loop-col l =
    record l.sheet { grid = all_hidden (range_with_len l.col (l.fn.span.last.col + 1 - l.col)) l.hidden l.sheet.grid }
    ≡ record l.fn.sheet { grid = all_hidden (columns_of l.fn.span) l.hidden l.fn.sheet.grid }

abbrev pub decreases-loop-col : goal.decreases-loop-col
decreases-loop-col l = l.last + 1 - l.col
