use Rattle.std.proofs.Common.{arith}
use Rattle.screen_show.proofs.LineSets.{copying_ends, copying_more, copying_starts}
use Rattle.session_core.specs.Machine.{State}
use Rattle.session_core.specs.Screen.{painted_screen, screen}
use Rattle.session_core.proofs.Still.{long}
use Rattle.session_core.proofs.machine.Machine.paint_panel.Goals as goal

pub loop-line-init : goal.loop-line-init
loop-line-init c = record {
  within = c.next_from-line.ensures.within.1;
  copying = copying_starts c.args.lines.now c.args.shown.now (screen c.args.self.now.state) c.requires.unchanged _
      c.next_from-line.ensures.passed c.is_whole.ensures.lines;
}

-- the line is painted, and those up to the next one of the set are the same already
pub loop-line-preserved : goal.loop-line-preserved
loop-line-preserved c =
    let s : State = c.args.self.now.state in
    record {
      within = c.next_from-line-in-loop-line.ensures.within.1;
      copying = rw (c.paint_line.ensures) (copying_more c.args.lines.now c.args.shown.now
          (screen s) c.requires.unchanged c.loop-line.line _ c.loop-line.shown (omega arith)
          c.next_from-line-in-loop-line.ensures.within.0 c.next_from-line-in-loop-line.ensures.passed
          (long s.frozen (painted_screen s)) c.loop-line.invariant.copying);
    }

pub returns : goal.returns
returns c =
    let s : State = c.args.self.now.state in
    copying_ends c.args.lines.now c.args.shown.now (screen s) c.requires.unchanged c.loop-line.line c.loop-line.shown
    (omega arith) (long s.frozen (painted_screen s)) c.loop-line.invariant.copying
