use Rattle.std.proofs.Common.{◌≡◌, drop}
use Rattle.command_desk.specs.Acting.{first_protected}
use Rattle.work_sheet.specs.Seen.{of_worksheet}
use Rattle.commands_data.proofs.protection.protected_among.Given as goal

abbrev pub invariant-loop-cell : goal.invariant-loop-cell
invariant-loop-cell l =
    first_protected (drop l.cell-index l.cells) (of_worksheet l.sheet) ≡ first_protected l.cells (of_worksheet l.sheet)
