use Rattle.std.proofs.Common.{◌≤◌, ◌-◌}
use Rattle.screen_show.proofs.LineSets.{Copying}
use Rattle.screen_show.proofs.screen.Screen.copy_lines.Given as goal

abbrev pub invariant-loop-row : goal.invariant-loop-row
invariant-loop-row l = record {
  within : l.row ≤ 25;
  copying : Copying l.row l.fn.self l.from l.self;
}

abbrev pub decreases-loop-row : goal.decreases-loop-row
decreases-loop-row l = 25 - l.row
