-- ERROR.
use Rattle.std.specs.Prelude.{ℕ, List}
use Rattle.session_rooms.specs.Panels.{plain_panel}
use Rattle.session_rooms.specs.declared.panel.Panel.{Panel}
use Rattle.session_rooms.specs.declared.panel.Mode.TheVariants as mode
use Rattle.key_words.specs.declared.key.Key.{Key}
use Rattle.key_words.specs.declared.key.Key.TheVariants as key
use Rattle.session_rooms.specs.declared.rooms.Room.TheVariants as room
use Rattle.session_rooms.specs.declared.turn.Turn.{Turn}
use Rattle.session_rooms.specs.declared.turn.Turn.TheVariants as turn

-- Enter and ESC go to READY
abbrev pub press_failed : Key → List ℕ → Turn
press_failed key.Enter message = turn.Become room.Ready
press_failed key.Esc message = turn.Become room.Ready
press_failed k message = turn.Become (room.Failed message)

-- ERROR is shown with its message
abbrev pub failed_panel : List ℕ → Panel
failed_panel message = record (plain_panel mode.Error) { message = message }
