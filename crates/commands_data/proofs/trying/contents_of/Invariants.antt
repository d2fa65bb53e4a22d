use Rattle.std.proofs.Common.{◌≡◌, ◌++◌, drop}
use Rattle.commands_data.specs.Trying.{contents_of}
use Rattle.work_sheet.specs.Seen.{of_worksheet}
use Rattle.commands_data.proofs.trying.contents_of.Given as goal

abbrev pub invariant-loop-cell : goal.invariant-loop-cell
invariant-loop-cell l =
    l.writes ++ contents_of (drop l.cell-index l.cells) (of_worksheet l.sheet)
    ≡ contents_of l.cells (of_worksheet l.sheet)
