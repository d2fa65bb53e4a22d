use Rattle.std.proofs.Common.{◌≡◌, ◌≤◌, ◌+◌, ◌-◌, ◌*◌, ◌++◌, length}
use Rattle.print_report.specs.Jobs.{printed_by}
use Rattle.print_report.specs.Pages.{pages}
use Rattle.print_report.proofs.pages.put_pages.Given as goal

abbrev pub invariant-loop-at : goal.invariant-loop-at
invariant-loop-at l =
    (length l.out ≤ 67108864) × (l.row ≤ 8191 + 255 * l.at)
    × (l.initial.out ++ pages (printed_by l.job) l.band l.number l.job.range.first.row l.count
    ≡ l.out ++ pages (printed_by l.job) l.band (l.number + l.at) l.row (l.count - l.at))
