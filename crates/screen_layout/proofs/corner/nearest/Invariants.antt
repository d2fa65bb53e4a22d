use Rattle.std.proofs.Common.{◌≡◌, ◌+◌, ◌-◌}
use Rattle.screen_layout.specs.Corner.{nearest, wide}
use Rattle.work_sheet.specs.Seen.{of_worksheet}
use Rattle.screen_layout.proofs.corner.nearest.Given as goal

abbrev pub invariant-loop-col : goal.invariant-loop-col
invariant-loop-col l = record {
  rest : l.rest ≡ wide (of_worksheet l.sheet) (l.pointer - l.col + 1) l.col;
  column : nearest (of_worksheet l.sheet) (l.pointer - l.first) l.first
      ≡ nearest (of_worksheet l.sheet) (l.pointer - l.col) l.col;
}
