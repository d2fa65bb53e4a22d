use Rattle.std.proofs.Common.{None}
use Rattle.sheet_run.proofs.Endings.{nine, unopened_run, unread_run}
use Rattle.sheet_run.proofs.Opened.{same_both, unopened, unread, unread_file}
use Rattle.sheet_run.proofs.runs.run_with.Goals as goal

pub run_session-requires-clause-fresh : goal.run_session-requires-clause-fresh
run_session-requires-clause-fresh g c = (c.in-Ok.ensures.opened None 0).fresh

pub run_session-requires-clause-room : goal.run_session-requires-clause-room
run_session-requires-clause-room g c = c.in-Ok.ensures.room

pub returns-in-Ok-clause-ran : goal.returns-in-Ok-clause-ran
returns-in-Ok-clause-ran g c = c.run_session.ensures.ran _ (c.in-Ok.ensures.opened _ _)

pub returns-in-Ok-clause-same : goal.returns-in-Ok-clause-same
returns-in-Ok-clause-same g c = same_both _ _ _ c.in-Ok.ensures.same c.run_session.ensures.same

pub returns-in-Err-NotRead-clause-same : goal.returns-in-Err-NotRead-clause-same
returns-in-Err-NotRead-clause-same g c = c.in-Err-NotRead.ensures.same

pub returns-in-Err-Memory-clause-same : goal.returns-in-Err-Memory-clause-same
returns-in-Err-Memory-clause-same g c = c.in-Err-Memory.ensures.same

pub tell_start-requires : goal.tell_start-requires
tell_start-requires g c =
    unread_file c.args.options c.in-Err-NotRead.why _ _
    (unread c.args.options c.in-Err-NotRead.field-0 c.in-Err-NotRead.why _ _ c.in-Err-NotRead.field-0-is
    (c.in-Err-NotRead.ensures.opened None 0))

pub returns-in-Err-NotRead-clause-ran : goal.returns-in-Err-NotRead-clause-ran
returns-in-Err-NotRead-clause-ran g c =
    let why = c.in-Err-NotRead.why in
    unread_run c.args.options _ _ why c.tell_start.result
    (unread c.args.options c.in-Err-NotRead.field-0 why _ _ c.in-Err-NotRead.field-0-is
    (c.in-Err-NotRead.ensures.opened _ _)) (λ name is. rw (← c.in-Err-NotRead.why-is) (c.tell_start.ensures name is))

pub returns-in-Err-Memory-clause-ran : goal.returns-in-Err-Memory-clause-ran
returns-in-Err-Memory-clause-ran g c =
    nine _ _ _ _ c.tell_memory.ensures.status
    (unopened_run c.args.options _ _ (unopened c.args.options c.in-Err-Memory.field-0 _ _ c.in-Err-Memory.field-0-is
    (c.in-Err-Memory.ensures.opened _ _)) c.tell_memory.ensures.tried)
