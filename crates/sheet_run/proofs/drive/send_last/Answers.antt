use Rattle.screen_show.proofs.LineSets.{all_may_differ}
use Rattle.sheet_run.proofs.drive.send_last.Goals as goal

pub send_screen-requires-clause-lines : goal.send_screen-requires-clause-lines
send_screen-requires-clause-lines g c = rw c.all.ensures (all_may_differ _ _)
