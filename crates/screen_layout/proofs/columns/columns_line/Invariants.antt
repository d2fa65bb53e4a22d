use Rattle.std.proofs.Common.{◌≤◌, length}
use Rattle.screen_layout.specs.Columns.{columns_line}
use Rattle.screen_layout.specs.inner.Coming.{coming}
use Rattle.work_sheet.specs.Seen.{of_worksheet}
use Rattle.screen_layout.proofs.Passing.{Painting}
use Rattle.screen_layout.proofs.columns.columns_line.Given as goal

abbrev pub invariant-loop-column : goal.invariant-loop-column
invariant-loop-column l = record {
  painting : Painting (of_worksheet l.sheet) l.row (columns_line (of_worksheet l.sheet) l.row l.first)
      (coming (of_worksheet l.sheet) l.coming) l.line l.over;
  used : l.coming.used ≤ 240;
}

abbrev pub decreases-loop-column : goal.decreases-loop-column
decreases-loop-column l = length (coming (of_worksheet l.sheet) l.coming)
