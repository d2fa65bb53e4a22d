-- POINT in a value that is typed.
use Rattle.std.specs.Prelude.{ℕ, [], ◌∷◌, if◌then◌else◌}
use Rattle.entry_line.specs.Line.{Entry}
use Rattle.grid_address.specs.Place.{Place}
use Rattle.key_words.specs.declared.key.Key.{Key}
use Rattle.key_words.specs.declared.key.Key.TheVariants as key
use Rattle.sheet_store.specs.Grid.{Grid}
use Rattle.cell_pointer.specs.declared.way.Way.TheVariants.{Stay}
use Rattle.session_rooms.specs.Bytes.{ends_reference}
use Rattle.session_rooms.specs.Lines.{extended}
use Rattle.session_rooms.specs.Panels.{line_panel}
use Rattle.session_rooms.specs.declared.panel.Panel.{Panel}
use Rattle.session_rooms.specs.declared.panel.Mode.TheVariants as mode
use Rattle.session_rooms.specs.declared.rooms.PointRoom.{PointRoom}
use Rattle.session_rooms.specs.declared.rooms.Room.TheVariants as room
use Rattle.session_rooms.specs.declared.rooms.TypingMode.TheVariants as typing
use Rattle.session_rooms.specs.declared.turn.Turn.{Turn}
use Rattle.session_rooms.specs.declared.turn.Turn.TheVariants as turn
use Rattle.room_keys.specs.pointing.Pointing.{reference_text, steered}

-- the line with its reference
abbrev pub put_in : PointRoom → Entry
put_in r = extended r.line (reference_text r.pointed)

-- a key steers the pointed reference, and the line stays as it was
abbrev pub steered_room : Key → Grid → Place → PointRoom → Turn
steered_room k g pointer r = turn.Become (room.Pointing (record r { pointed = steered k g pointer r.pointed }))

-- an operator, a bracket that closes or a comma puts the reference in and goes on
abbrev pub typed_byte : ℕ → Grid → Place → PointRoom → Turn
typed_byte b g pointer r =
    if ends_reference b
    then turn.Become (room.Typing (record { mode = typing.Value; line = extended (put_in r) (b ∷ []) }))
    else steered_room (key.Byte b) g pointer r

-- what a key comes to over these columns and this pointer: Enter puts the reference in and finishes the entry
abbrev pub press : Key → Grid → Place → PointRoom → Turn
press key.Enter g pointer r = turn.Finish Stay (put_in r)
press (key.Byte b) g pointer r = typed_byte b g pointer r
press k g pointer r = steered_room k g pointer r

-- the line with its reference, and the cursor behind it
abbrev pub panel : PointRoom → Panel
panel r = line_panel mode.Point [] (put_in r).text (put_in r).cursor
