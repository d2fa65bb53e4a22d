use Rattle.std.proofs.lemmas.Bool.{false≢true}
use Rattle.list_lemmas.proofs.Results.{on_err_always}
use Rattle.session_core.proofs.Begun.{moving_ends_none}
use Rattle.session_core.proofs.Breaking.{event_answered}
use Rattle.session_core.proofs.machine.Machine.do_event.Goals as goal

-- the event's calls were made
pub returns-in_err-end_command-clause-memory : goal.returns-in_err-end_command-clause-memory
returns-in_err-end_command-clause-memory g c =
    on_err_always _ (event_answered c.args.event c.args.now.now _ c.args.self.now c.take_event.new.self _ _
    c.in_ok-taken.ensures.ok)

-- what only moves ends no command
pub returns-in_err-end_command-clause-moves : goal.returns-in_err-end_command-clause-moves
returns-in_err-end_command-clause-moves g c moves =
    absurd (false≢true (c.in_err-end_command.ensures.sure (moving_ends_none c.args.event c.args.now.now _
    c.args.self.now c.take_event.new.self _ _ c.in_ok-taken.ensures.ok moves)))

pub returns-in_err-end_command-clause-sheet : goal.returns-in_err-end_command-clause-sheet
returns-in_err-end_command-clause-sheet g c moves =
    absurd (false≢true (c.in_err-end_command.ensures.sure (moving_ends_none c.args.event c.args.now.now _
    c.args.self.now c.take_event.new.self _ _ c.in_ok-taken.ensures.ok moves)))
