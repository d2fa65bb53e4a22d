use Rattle.std.proofs.Common.{◌≡◌, ◌+◌, ◌-◌, ◌++◌}
use Rattle.print_report.specs.Jobs.{printed_by}
use Rattle.print_report.specs.Pages.{rows}
use Rattle.print_report.proofs.rows.put_rows.Given as goal

abbrev pub invariant-loop-at : goal.invariant-loop-at
invariant-loop-at l =
    l.initial.out ++ rows (printed_by l.job) l.band l.row l.count
    ≡ l.out ++ rows (printed_by l.job) l.band (l.row + l.at) (l.count - l.at)
