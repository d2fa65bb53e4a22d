use Rattle.std.proofs.Common.{◌≤◌, ◌-◌}
use Rattle.screen_show.proofs.LineSets.{Copying}
use Rattle.session_core.specs.Screen.{screen}
use Rattle.session_core.proofs.machine.Machine.paint_panel.Given as goal

abbrev pub invariant-loop-line : goal.invariant-loop-line
invariant-loop-line l = record {
  within : l.line ≤ 25;
  copying : Copying l.line l.fn.shown (screen l.self.state) l.shown;
}

abbrev pub decreases-loop-line : goal.decreases-loop-line
decreases-loop-line l = 25 - l.line
