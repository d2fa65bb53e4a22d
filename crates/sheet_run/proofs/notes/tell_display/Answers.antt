use Rattle.std.proofs.Common.{ap}
use Rattle.sheet_run.specs.Notes.{display_note, display_status}
use Rattle.sheet_run.proofs.Telling.{told_as}
use Rattle.sheet_run.proofs.notes.tell_display.Goals as goal

pub returns-then-moved : goal.returns-then-moved
returns-then-moved g c =
    told_as _ _ _ _ _ _ _ _ _ (ap display_note c.if-moved.true) (ap display_status c.if-moved.true) c.tell_line.ensures
