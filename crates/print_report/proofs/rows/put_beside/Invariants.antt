use Rattle.std.proofs.Common.{◌≡◌, ◌≤◌, ◌+◌, ◌++◌, [], length, drop}
use Rattle.print_report.specs.Bands.{wide}
use Rattle.print_report.specs.Jobs.{sheet_of}
use Rattle.print_report.specs.Pages.{beside}
use Rattle.print_report.proofs.rows.put_beside.Given as goal

abbrev pub invariant-loop-at : goal.invariant-loop-at
invariant-loop-at l =
    (length l.line + wide (sheet_of l.sheet) (drop l.at l.band) ≤ 255)
    × (beside (sheet_of l.sheet) l.row l.band [] ≡ l.line ++ beside (sheet_of l.sheet) l.row (drop l.at l.band) l.over)
