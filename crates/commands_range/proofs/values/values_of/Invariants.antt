use Rattle.std.specs.Prelude.{◌≡◌, map}
use Rattle.command_desk.specs.Writing.{sight_in}
use Rattle.commands_range.specs.Valued.{value_of}
use Rattle.formula_parts.specs.Outlook.{block_cells}
use Rattle.grid_address.specs.Place.{height_of, width_of}
use Rattle.work_sheet.specs.Seen.{of_worksheet}
use Rattle.commands_range.proofs.values.values_of.Given as goal

abbrev pub invariant-loop-down : goal.invariant-loop-down
invariant-loop-down l =
    (l.writes ≡ map (value_of l.copy (sight_in (of_worksheet l.sheet)))
    (block_cells l.copy.target.first.row l.copy.target.first.col l.down (width_of l.copy.target)))
    × (l.height ≡ height_of l.copy.target)
