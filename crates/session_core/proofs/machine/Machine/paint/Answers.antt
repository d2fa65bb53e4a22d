use Rattle.screen_show.proofs.LineSets.{all_may_differ}
use Rattle.session_core.proofs.machine.Machine.paint.Goals as goal

pub paint_lines-requires : goal.paint_lines-requires
paint_lines-requires c = rw c.all.ensures (all_may_differ _ _)
