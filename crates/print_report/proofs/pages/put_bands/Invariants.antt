use Rattle.std.proofs.Common.{◌≡◌, ◌≤◌, ◌+◌, ◌*◌, ◌++◌, length}
use Rattle.print_report.specs.Bands.{bands}
use Rattle.print_report.specs.Jobs.{printed_by, sheet_of}
use Rattle.print_report.specs.Pages.{banded, page_width}
use Rattle.print_report.proofs.pages.put_bands.Given as goal

abbrev pub invariant-loop-rest : goal.invariant-loop-rest
invariant-loop-rest l =
    (length l.out ≤ 67108864) × (length l.rest ≤ 256) × (l.number + 8446 * length l.rest ≤ 1 + 8446 * 256)
    × (l.initial.out ++ banded (printed_by l.job) 1 (bands (sheet_of l.job.sheet) (page_width l.job.set.now) l.columns)
    ≡ l.out ++ banded (printed_by l.job) l.number (bands (sheet_of l.job.sheet) (page_width l.job.set.now) l.rest))

abbrev pub decreases-loop-rest : goal.decreases-loop-rest
decreases-loop-rest l = length l.rest
