-- What a step keeps for undo: a command's steps go from READY outside a macro to the next such state.
use Rattle.std.specs.Prelude.{◌≡◌, ◌&&◌, Bool, true, is_some, Option, None, Some, if◌then◌else◌}
use Rattle.session_rooms.specs.declared.turn.Turn.{Turn}
use Rattle.session_rooms.specs.declared.turn.Turn.TheVariants as turn
use Rattle.sheet_undo.specs.Histories.{ended, History, Tells}
use Rattle.session_core.specs.Machine.{sheet_of, State}
use Rattle.session_core.specs.Standing.{is_at_rest}
use Rattle.work_sheet.specs.Seen.{Sheet}

-- the history becomes this one
abbrev pub with_history : History → State → State
with_history h s = record s { history = h }

-- the state that is begun, or else this one
abbrev pub begun_or : Option Sheet → Sheet → Option Sheet
begun_or None sheet = Some sheet
begun_or (Some begun) sheet = Some begun

-- a command is begun with the sheet as it stands, where none is
abbrev pub with_begun : State → State
with_begun s = with_history (record s.history { begun = begun_or s.history.begun (sheet_of s) }) s

-- A command is begun before the first of its steps that can change the sheet: those before it leave the sheet as it
-- was in READY, and take no memory.
abbrev pub begun_for : Turn → State → State
begun_for (turn.Finish way line) s = with_begun s
begun_for (turn.Ask c) s = with_begun s
begun_for (turn.Act c) s = with_begun s
begun_for turn.Recalculate s = with_begun s
begun_for (turn.Start letter) s = with_begun s
begun_for t s = s

-- whether a command that was begun is at its end: in READY, and no macro is at work
abbrev pub is_at_end : State → Bool
is_at_end s = is_at_rest s && is_some s.history.begun

-- where a command is at its end, it is kept if it changed the sheet
abbrev pub command_ended : Bool → State → State
command_ended changed s = if is_at_end s then with_history (ended changed s.history.begun s.history.kept) s else s

-- where a command is at its end, the answer tells whether it changed the sheet
abbrev pub TellsChange : Bool → State → Type 0
TellsChange changed s = is_at_end s ≡ true → Tells changed s.history.begun (sheet_of s)
