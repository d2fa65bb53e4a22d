-- How a byte goes into the line that is typed where that stands, without a turn of its own.
use Rattle.std.specs.Prelude.{ℕ, Bool, true, false}
use Rattle.key_words.specs.declared.key.Key.TheVariants as key
use Rattle.session_core.specs.Machine.{State}
use Rattle.session_core.specs.declared.refusal.Refusal.TheVariants as refusal
use Rattle.session_rooms.specs.declared.rooms.Room.{Room}
use Rattle.session_rooms.specs.declared.rooms.Room.TheVariants as room
use Rattle.room_keys.specs.typing.Room.{keyed}

-- whether a line is typed
abbrev pub is_line_typed : Room → Bool
is_line_typed (room.Typing r) = true
is_line_typed room.Ready = false
is_line_typed (room.Pointing r) = false
is_line_typed (room.Menu r) = false
is_line_typed (room.Asking r) = false
is_line_typed (room.Failed message) = false

-- the room with a byte in the line that is typed; any other stays
abbrev pub with_byte : ℕ → Room → Room
with_byte b (room.Typing r) = room.Typing (keyed (key.Byte b) r)
with_byte b room.Ready = room.Ready
with_byte b (room.Pointing r) = room.Pointing r
with_byte b (room.Menu r) = room.Menu r
with_byte b (room.Asking r) = room.Asking r
with_byte b (room.Failed message) = room.Failed message

-- the state behind a byte that went into the line that is typed: nothing is refused, and END's mark is gone
abbrev pub typed_on : ℕ → State → State
typed_on b s = record s { room = with_byte b s.room; end = false; refusal = refusal.Nothing }
