-- How the session carries out what a key comes to.
use Rattle.std.specs.Prelude.{ℕ, Bool, true, false, List, [], ◌∷◌, ◌++◌, Option, None, Some, if◌then◌else◌}
use Rattle.cell_pointer.specs.Moves.{moved}
use Rattle.cell_pointer.specs.declared.way.Way.{Way}
use Rattle.command_desk.specs.declared.ending.CommandEnd.{CommandEnd}
use Rattle.command_desk.specs.declared.ending.CommandEnd.TheVariants.{Finished, Quits, Refused}
use Rattle.commands_file.specs.Calls.{Asked, Reply}
use Rattle.commands_file.specs.Commands.{looked, FileActed, Looking}
use Rattle.commands_file.specs.declared.looking.Looked.{Looked}
use Rattle.commands_file.specs.declared.looking.Looked.TheVariants.{There, Unknown}
use Rattle.desk_errors.specs.Messages.{message_of}
use Rattle.desk_errors.specs.declared.error.CommandError.{CommandError}
use Rattle.desk_errors.specs.declared.error.CommandError.TheVariants as error
use Rattle.entry_line.specs.Line.{placed, Entry}
use Rattle.formula_eval.specs.Mean.{mean}
use Rattle.formula_parts.specs.declared.look.Scene.{Scene}
use Rattle.formula_tree.specs.declared.value.Content.{Content}
use Rattle.grid_address.specs.Place.{Place}
use Rattle.macro_engine.specs.Catching.{caught, handles_errors, Caught}
use Rattle.macro_engine.specs.Steps.{macro_named}
use Rattle.macro_text.specs.declared.unit.MacroFault.TheVariants as fault
use Rattle.macro_words.specs.Moves.{begun_at}
use Rattle.room_keys.specs.menu.Room.{menu_or_ready}
use Rattle.menu_tree.specs.Levels.{back}
use Rattle.menu_tree.specs.declared.menu.Action.{Action}
use Rattle.room_keys.specs.prompt.Opening.{opening}
use Rattle.room_keys.specs.declared.prompt.following.WhatFollows.{WhatFollows}
use Rattle.room_keys.specs.declared.prompt.following.WhatFollows.TheVariants.{Asks, Looks, Acts}
use Rattle.screen_layout.specs.Columns.{columns_shown}
use Rattle.session_rooms.specs.declared.answers.AnsweredCommand.{AnsweredCommand}
use Rattle.session_rooms.specs.declared.rooms.Answering.{Answering}
use Rattle.session_rooms.specs.declared.rooms.Answering.TheVariants.{Choosing}
use Rattle.session_rooms.specs.declared.rooms.Room.{Room}
use Rattle.session_rooms.specs.declared.rooms.Room.TheVariants as room
use Rattle.session_rooms.specs.declared.rooms.TypingMode.TheVariants as typing
use Rattle.session_rooms.specs.declared.turn.Turn.{Turn}
use Rattle.session_rooms.specs.declared.turn.Turn.TheVariants as turn
use Rattle.session_core.specs.Act.{act}
use Rattle.sheet_edits.specs.Edits.{is_protected}
use Rattle.work_sheet.specs.Doing as doing
use Rattle.work_sheet.specs.Kept.{put_back}
use Rattle.work_sheet.specs.Seen.{Sheet}
use Rattle.session_core.specs.Entering.{meaning_of}
use Rattle.session_core.specs.Faults.{fault_message}
use Rattle.session_core.specs.Keeping.{with_history}
use Rattle.session_core.specs.Machine.{and_further, followed_by, in_room, pointer_of, pointing_at, quiet, sheet_of}
use Rattle.session_core.specs.Machine.{is_running, with_done, with_macro, Outcome, Replies, State}
use Rattle.session_core.specs.declared.entering.Meant.{Meant}
use Rattle.session_core.specs.declared.entering.Meant.TheVariants.{Means, Faulty}
use Rattle.session_core.specs.declared.refusal.Refusal.TheVariants as refusal

-- a message is told in ERROR, and a macro that runs stops
abbrev pub told : List ℕ → State → State
told message s = in_room (room.Failed message) (with_macro None s)

-- behind an error the session is in READY where a macro has a place for errors, and else it tells the error
abbrev pub room_behind : Bool → CommandError → Room
room_behind true e = room.Ready
room_behind false e = room.Failed (message_of e)

-- what a macro made of an error
abbrev pub caught_as : Caught → Room → State → Outcome
caught_as c r s = with_done c.done (in_room r (with_macro c.running s))

-- What is typed is dropped. A macro that runs goes on at its place for errors; without one it stops, and the error is
-- told.
unfoldable pub failed : CommandError → Scene → State → Outcome
failed e scene s =
    caught_as (caught scene (message_of e) s.running (sheet_of s)) (room_behind (handles_errors s.running) e) s

-- the pointer goes a way, by the columns that are shown
abbrev pub going : Way → State → State
going way s = pointing_at (moved way (columns_shown (sheet_of s) s.corner.col) (sheet_of s).grid (pointer_of s)) s

-- whether the pointer's cell is protected
abbrev pub is_pointer_protected : State → Bool
is_pointer_protected s = is_protected (sheet_of s).settings (sheet_of s).grid (pointer_of s)

-- all is recalculated
abbrev pub recalculated : Scene → State → Outcome
recalculated scene s = with_done (doing.recalculated mean scene (sheet_of s)) s

-- a content is entered into the pointer's cell, in Automatic mode all is recalculated, and then the pointer moves
abbrev pub entered : Content → Way → Scene → State → Outcome
entered x way scene s =
    if is_pointer_protected s
    then failed (error.Protected (pointer_of s)) scene s
    else and_further (with_done (doing.with_entry mean scene (pointer_of s) x (sheet_of s)) s) (going way)

-- a line is edited
abbrev pub editing : Entry → State → State
editing line s = in_room (room.Typing (record { mode = typing.Edit; line = line })) s

-- a line with a fault is refused, and edited with the cursor at the fault
abbrev pub faulting : Entry → State → State
faulting line s = record (editing line s) { refusal = refusal.Line }

-- a fault goes to EDIT, with the cursor at its place
abbrev pub finished_as : Meant → Way → Entry → Scene → State → Outcome
finished_as (Means x) way line scene s = entered x way scene s
finished_as (Faulty at) way line scene s = quiet (faulting (placed line at) s)

-- the line is entered into the pointer's cell, and then the pointer moves
abbrev pub finished : Way → Entry → Scene → State → Outcome
finished way line scene s = finished_as (meaning_of line.text (sheet_of s) (pointer_of s)) way line scene s

-- a command goes back to its menu or to READY, ends the run, or fails
abbrev pub left_by : CommandEnd → Action → Scene → State → Outcome
left_by Finished a scene s = quiet (in_room (menu_or_ready (back a)) s)
left_by Quits a scene s = record (quiet s) { ends = true }
left_by (Refused e) a scene s = failed e scene s

-- the desk that a command leaves, what happened in its worksheet, and the calls that it made
abbrev pub done_by : FileActed → State → Outcome
done_by d s = record { state = record s { desk = d.acted.desk }; log = d.acted.log; ends = false; calls = d.calls }

-- the session goes on as the command ended, over the desk that it leaves
abbrev pub behind : FileActed → Action → Scene → State → Outcome
behind d a scene s = followed_by (done_by d s) (left_by d.acted.end a scene)

-- a command is carried out
abbrev pub acted : AnsweredCommand → Reply → Scene → State → Outcome
acted c reply scene s = behind (act c.action c.answers scene s.desk reply) c.action scene s

-- a command goes on asking
abbrev pub asking : AnsweredCommand → Answering → State → Outcome
asking c how s = quiet (in_room (room.Asking (record { command = c; answering = how })) s)

-- a file that is there is replaced by choice, and where none is there the command is carried out
abbrev pub looked_as : Looked → AnsweredCommand → Reply → Scene → State → Outcome
looked_as (There true) c reply scene s = asking c (Choosing 0) s
looked_as (There false) c reply scene s = acted c reply scene s
looked_as (Unknown e) c reply scene s = failed e scene s

-- calls were made before
abbrev pub behind_calls : List Asked → Outcome → Outcome
behind_calls calls o = record o { calls = calls ++ o.calls }

-- what a look for the file came to, and what follows it
abbrev pub followed : Looking → AnsweredCommand → Reply → Scene → State → Outcome
followed look c reply scene s = behind_calls look.calls (looked_as look.came c reply scene s)

-- the shelf is asked whether the file is there
abbrev pub looking : AnsweredCommand → Replies → Scene → State → Outcome
looking c replies scene s = followed (looked c.action c.answers replies.look) c replies.act scene s

-- the prompt, the question whether a file is there, or the command itself
abbrev pub opened : WhatFollows → AnsweredCommand → Replies → Scene → State → Outcome
opened (Asks how) c replies scene s = asking c how s
opened Looks c replies scene s = looking c replies scene s
opened Acts c replies scene s = acted c replies.act scene s

-- a command has these answers: its next prompt follows, or it is carried out
abbrev pub asked : AnsweredCommand → Replies → Scene → State → Outcome
asked c replies scene s = opened (opening c (pointer_of s) s.desk.file_name) c replies scene s

-- a macro starts at its cell, or there is none
abbrev pub started_at : Option Place → State → State
started_at None s = told (fault_message fault.NoSuchMacro (pointer_of s)) s
started_at (Some c) s = with_macro (Some (begun_at c)) s

-- the macro of a letter starts; inside a macro the key is passed over
abbrev pub started : ℕ → State → State
started letter s = if is_running s then s else started_at (macro_named (sheet_of s).names letter) s

-- the latest kept state takes the sheet's place and is kept no more; where none is kept, that is an error
abbrev pub undone_to : List Sheet → Scene → State → Outcome
undone_to [] scene s = failed error.NothingToUndo scene s
undone_to (latest ∷ earlier) scene s =
    with_done (put_back latest (sheet_of s)) (with_history (record { kept = earlier; begun = None }) s)

-- the last command is taken back; inside a macro the key is passed over
abbrev pub undone : Scene → State → Outcome
undone scene s = if is_running s then quiet s else undone_to s.history.kept scene s

-- what a key came to is carried out
abbrev pub carried : Turn → Replies → Scene → State → Outcome
carried (turn.Become r) replies scene s = quiet (in_room r s)
carried (turn.Move way) replies scene s = quiet (going way s)
carried turn.Mark replies scene s = quiet (record s { end = true })
carried (turn.Finish way line) replies scene s = finished way line scene s
carried (turn.Ask c) replies scene s = asked c replies scene s
carried (turn.Act c) replies scene s = acted c replies.act scene s
carried turn.Recalculate replies scene s = recalculated scene s
carried (turn.Start letter) replies scene s = quiet (started letter s)
carried turn.Undo replies scene s = undone scene s
carried (turn.Fail e) replies scene s = failed e scene s
