use Rattle.std.proofs.Common.{◌≡◌, ◌<◌, ◌≤◌, ◌-◌, length, drop}
use Rattle.screen_show.specs.inner.Patches.{differing_front}
use Rattle.screen_show.proofs.LineSending.{SendingLine}
use Rattle.screen_show.proofs.sender.send_line.Given as goal

abbrev pub invariant-loop-col : goal.invariant-loop-col
invariant-loop-col g l =
    let was = (goal.Display-dyn g l.initial.display.now).seen l.initial.display.now.1 in
    let now = (goal.Display-dyn g l.display.now).seen l.display.now.1 in
    record {
      within : l.col ≤ 80;
      differs : l.col < 80 → 0 < differing_front (drop l.col l.before) (drop l.col l.after);
      line : SendingLine l.row l.col l.before l.after was.told now.told;
      kind : now.kind ≡ was.kind;
      faults : now.faults ≡ was.faults;
    }

abbrev pub decreases-loop-col : goal.decreases-loop-col
decreases-loop-col g l = length l.initial.after - l.col
