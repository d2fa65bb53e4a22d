use Rattle.std.proofs.Common.{◌≡◌, ◌≤◌, ◌-◌, ◌*◌}
use Rattle.screen_layout.specs.Corner.{wide}
use Rattle.work_sheet.specs.Seen.{of_worksheet}
use Rattle.screen_layout.proofs.corner.wide.Given as goal

abbrev pub invariant-loop-col : goal.invariant-loop-col
invariant-loop-col l = record {
  sum : l.sum ≡ wide (of_worksheet l.sheet) (l.col - l.first) l.first;
  most : l.sum ≤ 240 * (l.col - l.first);
}
