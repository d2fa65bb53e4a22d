use Rattle.std.proofs.Common.{◌≤◌, ◌-◌}
use Rattle.screen_layout.specs.Views.{viewed}
use Rattle.screen_layout.specs.Screen.{screen}
use Rattle.screen_show.proofs.LineSets.{Copying}
use Rattle.work_sheet.specs.Seen.{of_worksheet}
use Rattle.screen_layout.proofs.screen.paint_lines.Given as goal

abbrev pub invariant-loop-line : goal.invariant-loop-line
invariant-loop-line l = record {
  within : l.line ≤ 25;
  copying : Copying l.line l.fn.shown (screen (of_worksheet l.sheet) (viewed l.panel) l.corner l.now.day l.now.second)
      l.shown;
}

abbrev pub decreases-loop-line : goal.decreases-loop-line
decreases-loop-line l = 25 - l.line
