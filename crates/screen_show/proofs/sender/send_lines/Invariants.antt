use Rattle.std.proofs.Common.{◌≡◌, ◌≤◌, ◌-◌}
use Rattle.screen_show.proofs.ScreenSending.{SendingScreen}
use Rattle.screen_show.proofs.sender.send_lines.Given as goal

abbrev pub invariant-loop-row : goal.invariant-loop-row
invariant-loop-row g l =
    let was = (goal.Display-dyn g l.initial.display.now).seen l.initial.display.now.1 in
    let now = (goal.Display-dyn g l.display.now).seen l.display.now.1 in
    record {
      within : l.row ≤ 25;
      lines : SendingScreen l.row l.before l.after was.told now.told;
      kind : now.kind ≡ was.kind;
      faults : now.faults ≡ was.faults;
    }

abbrev pub decreases-loop-row : goal.decreases-loop-row
decreases-loop-row g l = 25 - l.row
