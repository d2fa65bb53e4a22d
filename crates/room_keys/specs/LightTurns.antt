-- Turns that hold no line.
use Rattle.room_keys.specs.declared.light_turn.LightTurn.{LightTurn}
use Rattle.room_keys.specs.declared.light_turn.LightTurn.TheVariants as light
use Rattle.session_rooms.specs.declared.rooms.Room.TheVariants as room
use Rattle.session_rooms.specs.declared.turn.Turn.{Turn}
use Rattle.session_rooms.specs.declared.turn.Turn.TheVariants as turn

-- the turn that it is
abbrev pub whole_turn : LightTurn → Turn
whole_turn light.Ready = turn.Become room.Ready
whole_turn (light.Menu r) = turn.Become (room.Menu r)
whole_turn (light.Move w) = turn.Move w
