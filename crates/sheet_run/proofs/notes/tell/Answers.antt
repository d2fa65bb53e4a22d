use Rattle.sheet_run.proofs.Telling.{told_after, told_limit, told_none}
use Rattle.sheet_run.proofs.notes.tell.Goals as goal

pub returns-in-Ok : goal.returns-in-Ok
returns-in-Ok g c = told_after _ _ _ _ _ _ _ _ _ _ c.in-Ok.ensures.0 c.in-Ok.ensures.1
    (told_limit _ _ c.args.session.now.state _ _ _ _ _ _ _ c.limit.ensures c.tell_ending.ensures)

pub returns-in-Err : goal.returns-in-Err
returns-in-Err g c = told_none _ _ _ _ _ _ _ c.in-Err.ensures.0 c.in-Err.ensures.1
