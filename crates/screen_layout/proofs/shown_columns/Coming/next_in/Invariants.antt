use Rattle.std.proofs.Common.{◌≡◌}
use Rattle.screen_layout.specs.inner.Coming.{behind, coming}
use Rattle.work_sheet.specs.Seen.{of_worksheet}
use Rattle.screen_layout.proofs.shown_columns.Coming.next_in.Given as goal

abbrev pub invariant-loop-col : goal.invariant-loop-col
invariant-loop-col l = record {
  same : l.self ≡ l.fn.self;
  left : coming (of_worksheet l.sheet) l.self ≡ behind (of_worksheet l.sheet) l.self.used l.col;
}
