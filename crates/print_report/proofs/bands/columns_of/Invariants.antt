use Rattle.std.proofs.Common.{◌≡◌, ◌≤◌, ◌+◌, ◌-◌, ◌++◌, length}
use Rattle.print_report.specs.Bands.{columns_from, columns_of}
use Rattle.print_report.specs.Jobs.{sheet_of}
use Rattle.print_report.proofs.bands.columns_of.Given as goal

abbrev pub invariant-loop-col : goal.invariant-loop-col
invariant-loop-col l =
    (length l.columns ≤ l.col) × (l.col ≤ l.fn.range.last.col + 1)
    × (columns_of (sheet_of l.sheet) l.fn.range
    ≡ l.columns ++ columns_from (sheet_of l.sheet) l.col (l.fn.range.last.col + 1 - l.col))
