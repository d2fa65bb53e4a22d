use Rattle.std.proofs.Common.{subst}
use Rattle.screen_layout.proofs.Painted.{printed}
use Rattle.screen_show.specs.Screen.{IsPrinted}
use Rattle.session_core.specs.inner.Still.{ArePrinted}
use Rattle.session_core.specs.Machine.{State}
use Rattle.session_core.specs.inner.Leading.{Worked}
use Rattle.session_core.specs.Screen.{painted_screen, panel_of, screen}
use Rattle.session_core.proofs.Still.{frozen_printed}
use Rattle.session_core.proofs.machine.Machine.is_printed.Goals as goal

-- no byte of what is painted or held is below a space
screen_printed : (s : State) → ArePrinted s.frozen.panel → ArePrinted s.frozen.windows → IsPrinted (screen s)
screen_printed s panel windows =
    frozen_printed s.frozen (painted_screen s) panel windows (printed s.desk.sheet (panel_of s) s.corner s.day s.second)

pub returns : goal.returns
returns c = screen_printed c.args.self.now.state
    (subst (λ (v : Worked). ArePrinted v.state.frozen.panel) c.self.view_is c.is_printed.ensures.0)
    (subst (λ (v : Worked). ArePrinted v.state.frozen.windows) c.self.view_is c.is_printed.ensures.1)
