use Rattle.std.specs.Prelude.{◌≡◌, ◌+◌, ◌++◌, map}
use Rattle.command_desk.specs.Writing.{sight_in}
use Rattle.commands_range.specs.Valued.{value_of}
use Rattle.formula_parts.specs.Outlook.{row_cells}
use Rattle.grid_address.specs.Place.{width_of}
use Rattle.work_sheet.specs.Seen.{of_worksheet}
use Rattle.commands_range.proofs.values.push_row.Given as goal

abbrev pub invariant-loop-across : goal.invariant-loop-across
invariant-loop-across l =
    (l.writes ≡ l.fn.writes
    ++ map (value_of l.copy (sight_in (of_worksheet l.sheet)))
    (row_cells (l.copy.target.first.row + l.down) l.copy.target.first.col l.across))
    × (l.width ≡ width_of l.copy.target)
