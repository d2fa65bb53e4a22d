-- What a key comes to, and what the panel shows, by what the session is doing.
use Rattle.std.specs.Prelude.{Bool}
use Rattle.command_desk.specs.Desks.{Desk}
use Rattle.session_rooms.specs.declared.panel.Panel.{Panel}
use Rattle.key_words.specs.declared.key.Key.{Key}
use Rattle.key_words.specs.declared.key.Key.TheVariants as key
use Rattle.room_keys.specs.menu.Room as menu
use Rattle.room_keys.specs.pointing.Room as point
use Rattle.room_keys.specs.prompt.Panel as prompt_panel
use Rattle.room_keys.specs.prompt.Room as prompt
use Rattle.room_keys.specs.ready.Failed as failed
use Rattle.room_keys.specs.ready.Ready as ready
use Rattle.room_keys.specs.typing.Room as typing
use Rattle.session_rooms.specs.declared.rooms.Room.{Room}
use Rattle.session_rooms.specs.declared.rooms.Room.TheVariants as room
use Rattle.session_rooms.specs.declared.turn.Turn.{Turn}
use Rattle.session_rooms.specs.declared.turn.Turn.TheVariants as turn

-- what a key comes to in a room
abbrev pub pressed : Room → Key → Bool → Desk → Turn
pressed room.Ready k end d = ready.press k end d.sheet d.ranges
pressed (room.Typing r) k end d = typing.press k d.sheet.grid d.sheet.settings.pointer r
pressed (room.Pointing r) k end d = point.press k d.sheet.grid d.sheet.settings.pointer r
pressed (room.Menu r) k end d = menu.press k r
pressed (room.Asking r) k end d = prompt.press k d.sheet r
pressed (room.Failed message) k end d = failed.press_failed k message

-- BREAK goes to READY from everywhere, and any other key is the room's
abbrev pub turn_of : Key → Room → Bool → Desk → Turn
turn_of key.Break r end d = turn.Become room.Ready
turn_of k r end d = pressed r k end d

-- what is shown of a room
abbrev pub room_panel : Room → Panel
room_panel room.Ready = ready.panel
room_panel (room.Typing r) = typing.panel r
room_panel (room.Pointing r) = point.panel r
room_panel (room.Menu r) = menu.panel r
room_panel (room.Asking r) = prompt_panel.panel r
room_panel (room.Failed message) = failed.failed_panel message
