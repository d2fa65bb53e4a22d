use Rattle.std.proofs.Common.{arith, ℕ}
use Rattle.screen_show.proofs.LineSets.{copying_ends, copying_starts, Copying}
use Rattle.session_core.specs.Machine.{State}
use Rattle.session_core.specs.Screen.{painted_screen, screen}
use Rattle.session_core.proofs.Still.{long}
use Rattle.session_core.proofs.machine.Machine.paint_lines.Goals as goal

-- where no line may be another, the screen is the one that is shown
pub returns-then-next_from-gt24 : goal.returns-then-next_from-gt24
returns-then-next_from-gt24 c =
    let s : State = c.args.self.now.state in
    let next : ℕ = c.next_from.result in
    let copying : Copying next c.args.shown.now (screen s) c.args.shown.now =
    copying_starts c.args.lines.now c.args.shown.now (screen s) c.requires next c.next_from.ensures.passed
    c.is_whole.ensures.lines in
    copying_ends c.args.lines.now c.args.shown.now (screen s) c.requires next c.args.shown.now (omega arith)
    (long s.frozen (painted_screen s)) copying
