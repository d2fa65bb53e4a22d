-- LABEL, VALUE and EDIT of an entry.
use Rattle.std.specs.Prelude.{ℕ, List, [], ◌∷◌, Option, None, Some, if◌then◌else◌}
use Rattle.entry_line.specs.Line.{after, event, Entry}
use Rattle.entry_line.specs.declared.event.LineEvent.{LineEvent}
use Rattle.entry_line.specs.declared.event.LineEvent.TheVariants as line
use Rattle.grid_address.specs.Place.{Place}
use Rattle.key_words.specs.declared.key.Key.{Key}
use Rattle.key_words.specs.declared.key.Key.TheVariants as key
use Rattle.sheet_store.specs.Grid.{Grid}
use Rattle.cell_pointer.specs.Keys.{arrow_of, finish_of}
use Rattle.cell_pointer.specs.declared.way.Arrow.{Arrow}
use Rattle.cell_pointer.specs.declared.way.Way.{Way}
use Rattle.room_keys.specs.pointing.Pointing.{moved_corner, pointed_at}
use Rattle.session_rooms.specs.Bytes.{wants_operand}
use Rattle.session_rooms.specs.Lines.{last_byte}
use Rattle.session_rooms.specs.Panels.{line_panel}
use Rattle.session_rooms.specs.declared.panel.Panel.{Panel}
use Rattle.session_rooms.specs.declared.panel.Mode.{Mode}
use Rattle.session_rooms.specs.declared.panel.Mode.TheVariants as mode
use Rattle.session_rooms.specs.declared.rooms.Room.{Room}
use Rattle.session_rooms.specs.declared.rooms.Room.TheVariants as room
use Rattle.session_rooms.specs.declared.rooms.TypingMode.{TypingMode}
use Rattle.session_rooms.specs.declared.rooms.TypingMode.TheVariants.{Label, Value, Edit}
use Rattle.session_rooms.specs.declared.rooms.TypingRoom.{TypingRoom}
use Rattle.session_rooms.specs.declared.turn.Turn.{Turn}
use Rattle.session_rooms.specs.declared.turn.Turn.TheVariants as turn

-- the line after a key
abbrev pub keyed : Key → TypingRoom → TypingRoom
keyed k r = record r { line = after k r.line }

-- on a line that is empty nothing is typed any more
abbrev pub unless_empty : List ℕ → TypingRoom → Room
unless_empty [] r = room.Ready
unless_empty (b ∷ bs) r = room.Typing r

-- a key that finishes the line does so, and any other is passed over
abbrev pub finished_or : Option Way → TypingRoom → Turn
finished_or None r = turn.Become (room.Typing r)
finished_or (Some w) r = turn.Finish w r.line

-- in LABEL and VALUE: a byte is added, BS takes the last one, ESC gives the line up, and EDIT edits it
abbrev pub press_line : Key → TypingRoom → Turn
press_line (key.Byte b) r = turn.Become (room.Typing (keyed (key.Byte b) r))
press_line key.Bs r = turn.Become (unless_empty (keyed key.Bs r).line.text (keyed key.Bs r))
press_line key.Esc r = turn.Become room.Ready
press_line key.Edit r = turn.Become (room.Typing (record r { mode = Edit }))
press_line k r = finished_or (finish_of k) r

-- an arrow behind an operator, an open bracket or a comma begins to point, one cell from the pointer
abbrev pub press_value : Option Arrow → Key → Grid → Place → TypingRoom → Turn
press_value None k g pointer r = press_line k r
press_value (Some a) k g pointer r =
    if wants_operand (last_byte r.line.text)
    then turn.Become (room.Pointing (record { line = r.line; pointed = moved_corner (Some a) g (pointed_at pointer) }))
    else press_line k r

-- an empty line leaves the cell as it was
abbrev pub finished_line : List ℕ → Way → Entry → Turn
finished_line [] w e = turn.Move w
finished_line (b ∷ bs) w e = turn.Finish w e

-- a key that finishes the line in EDIT moves the pointer too
abbrev pub finished_by : Option Way → Entry → Turn
finished_by None e = turn.Become room.Ready
finished_by (Some w) e = finished_line e.text w e

-- what a key in EDIT comes to, where the line has taken it
abbrev pub edited : LineEvent → Option Way → TypingRoom → Turn
edited line.GivenUp way r = turn.Become room.Ready
edited line.Finished way r = finished_by way r.line
edited _ way r = turn.Become (room.Typing r)

-- what a key comes to, by the mode
abbrev pub press_by : TypingMode → Key → Grid → Place → TypingRoom → Turn
press_by Label k g pointer r = press_line k r
press_by Value k g pointer r = press_value (arrow_of k) k g pointer r
press_by Edit k g pointer r = edited (event k r.line) (finish_of k) (keyed k r)

-- what a key comes to over these columns and this pointer
abbrev pub press : Key → Grid → Place → TypingRoom → Turn
press k g pointer r = press_by r.mode k g pointer r

-- the mode as it is shown
abbrev pub told_mode : TypingMode → Mode
told_mode Label = mode.Label
told_mode Value = mode.Value
told_mode Edit = mode.Edit

-- what is shown of an entry: its line and the cursor, under its mode
abbrev pub panel : TypingRoom → Panel
panel r = line_panel (told_mode r.mode) [] r.line.text r.line.cursor
