-- READY.
use Rattle.std.specs.Prelude.{ℕ, Bool, true, false, nat_eq, List, [], ◌∷◌, Option, None, Some, if◌then◌else◌}
use Rattle.lics_text.specs.Ascii as ascii
use Rattle.cell_pointer.specs.Keys.{move_after_end, move_of}
use Rattle.cell_pointer.specs.declared.way.Way.{Way}
use Rattle.session_rooms.specs.Panels.{plain_panel}
use Rattle.session_rooms.specs.declared.panel.Panel.{Panel}
use Rattle.session_rooms.specs.declared.panel.Mode.TheVariants as mode
use Rattle.desk_errors.specs.declared.error.CommandError.TheVariants as error
use Rattle.data_blocks.specs.declared.ranges.DeskRanges.{DeskRanges}
use Rattle.data_blocks.specs.declared.ranges.LastQuery.{LastQuery}
use Rattle.data_blocks.specs.declared.ranges.LastQuery.TheVariants as query
use Rattle.key_words.specs.declared.key.Key.{Key}
use Rattle.key_words.specs.declared.key.Key.TheVariants as key
use Rattle.menu_tree.specs.declared.menu.Action.TheVariants as action
use Rattle.menu_tree.specs.declared.menu.CommonAction.TheVariants as common
use Rattle.menu_tree.specs.declared.menu.DataAction.{DataAction}
use Rattle.menu_tree.specs.declared.menu.DataAction.TheVariants as records
use Rattle.menu_tree.specs.declared.menu.Menu.TheVariants as menu
use Rattle.room_keys.specs.menu.Room.{opened}
use Rattle.session_rooms.specs.Bytes.{begins_value}
use Rattle.session_rooms.specs.Lines.{fits_line, line_of}
use Rattle.session_rooms.specs.declared.rooms.Room.{Room}
use Rattle.session_rooms.specs.declared.rooms.Room.TheVariants as room
use Rattle.session_rooms.specs.declared.rooms.TypingMode.{TypingMode}
use Rattle.session_rooms.specs.declared.rooms.TypingMode.TheVariants as typing
use Rattle.session_rooms.specs.declared.turn.Turn.{Turn}
use Rattle.session_rooms.specs.declared.turn.Turn.TheVariants as turn
use Rattle.work_sheet.specs.Seen.{Sheet}
use Rattle.work_sheet.specs.Typed as cell

-- a digit or one of + - . ( @ # $ begins a value, and any other byte a label
abbrev pub begun_mode : ℕ → TypingMode
begun_mode b = if begins_value b then typing.Value else typing.Label

-- a slash opens the main menu, and any other byte begins a line
abbrev pub begun : ℕ → Room
begun b =
    if nat_eq b ascii.slash
    then opened menu.Main
    else room.Typing (record { mode = begun_mode b; line = line_of (b ∷ []) })

-- what the pointer's cell holds, as it would be typed
abbrev pub pointed_text : Sheet → List ℕ
pointed_text s = cell.typed s.names s.grid s.settings.pointer

-- a cell's text is edited, with the cursor at its end
abbrev pub editing : List ℕ → Turn
editing text =
    if fits_line text
    then turn.Become (room.Typing (record { mode = typing.Edit; line = line_of text }))
    else turn.Fail error.LineTooLong

-- a key that doesn't move the pointer is passed over
abbrev pub moving : Option Way → Turn
moving None = turn.Become room.Ready
moving (Some w) = turn.Move w

-- END waits for a key, and a second END takes that back
abbrev pub marking : Bool → Turn
marking true = turn.Become room.Ready
marking false = turn.Mark

-- where a key moves the pointer, behind END or not
abbrev pub way_of : Bool → Key → Option Way
way_of true k = move_after_end k
way_of false k = move_of k

-- a command on data that asks for nothing is carried out
abbrev pub carrying_out : DataAction → Turn
carrying_out a = turn.Act (record { action = action.Data a; answers = [] })

-- the last query is made again, with the ranges that are kept now
abbrev pub query_again : LastQuery → Turn
query_again query.Nothing = turn.Fail error.QueryRangeMissing
query_again query.Extract = carrying_out records.Extract
query_again query.Unique = carrying_out records.Unique
query_again query.Delete = carrying_out records.DeleteRecords

-- what a key comes to, where END was pressed before it or not, by the sheet and what the commands on data keep
abbrev pub press : Key → Bool → Sheet → DeskRanges → Turn
press (key.Byte b) end s r = turn.Become (begun b)
press key.End end s r = marking end
press key.Edit end s r = editing (pointed_text s)
press key.Goto end s r = turn.Ask (record { action = action.Common common.Goto; answers = [] })
press key.Query end s r = query_again r.last_query
press key.Table end s r = carrying_out records.RepeatTable
press key.Calc end s r = turn.Recalculate
press (key.Alt letter) end s r = turn.Start letter
press key.Undo end s r = turn.Undo
press k end s r = moving (way_of end k)

-- READY is shown alone
abbrev pub panel : Panel
panel = plain_panel mode.Ready
