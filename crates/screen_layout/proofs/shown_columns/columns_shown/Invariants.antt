use Rattle.std.proofs.Common.{◌≡◌, ◌≤◌, ◌+◌, length}
use Rattle.screen_layout.specs.Columns.{columns_shown}
use Rattle.screen_layout.specs.inner.Coming.{coming}
use Rattle.work_sheet.specs.Seen.{of_worksheet}
use Rattle.screen_layout.proofs.shown_columns.columns_shown.Given as goal

abbrev pub invariant-loop-coming : goal.invariant-loop-coming
invariant-loop-coming l = record {
  all : l.count + length (coming (of_worksheet l.sheet) l.coming) ≡ columns_shown (of_worksheet l.sheet) l.first;
  used : l.coming.used ≤ 240;
  fewer : l.count ≤ l.coming.used;
}

abbrev pub decreases-loop-coming : goal.decreases-loop-coming
decreases-loop-coming l = length (coming (of_worksheet l.sheet) l.coming)
