-- How a turn that holds no line is carried out.
use Rattle.std.specs.Prelude.{false}
use Rattle.key_words.specs.declared.key.Key.{Key}
use Rattle.room_keys.specs.declared.light_turn.LightTurn.{LightTurn}
use Rattle.room_keys.specs.declared.light_turn.LightTurn.TheVariants as light
use Rattle.session_core.specs.Carrying.{going}
use Rattle.session_core.specs.Machine.{in_room, State}
use Rattle.session_core.specs.Refusing.{key_refused}
use Rattle.session_rooms.specs.declared.rooms.Room.TheVariants as room

-- END's mark is gone behind a key, with what is refused of it; what the session is doing stays
abbrev pub behind_key : Key → State → State
behind_key k s = record s { end = false; refusal = key_refused k s.room }

-- READY or a menu follows, or the pointer moves in READY
abbrev pub lightly : LightTurn → State → State
lightly light.Ready s = in_room room.Ready s
lightly (light.Menu r) s = in_room (room.Menu r) s
lightly (light.Move w) s = going w (in_room room.Ready s)
