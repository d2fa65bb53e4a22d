-- The screen of a state.
use Rattle.std.specs.Prelude.{ℕ, List}
use Rattle.session_rooms.specs.declared.panel.Panel.{Panel}
use Rattle.screen_layout.specs.Screen.{screen as painted}
use Rattle.session_core.specs.Frozen.{with_frozen}
use Rattle.session_core.specs.Machine.{is_running, sheet_of, State}
use Rattle.session_core.specs.Pressing.{room_panel}
use Rattle.session_core.specs.Waiting.{waiting_panel}

-- what is shown of the macro's line or menu, or else of the room
abbrev pub shown_panel : State → Panel
shown_panel s = waiting_panel (sheet_of s) s.running (room_panel s.room)

-- the same with END's mark, whether a macro runs, and the text in the mode's place
abbrev pub panel_of : State → Panel
panel_of s = record (shown_panel s) { end = s.end; running = is_running s; indicate = s.indicate }

-- the screen as it is painted from nothing
abbrev pub painted_screen : State → List (List ℕ)
painted_screen s = painted (sheet_of s) (panel_of s) s.corner s.day s.second

-- the screen that a state shows
abbrev pub screen : State → List (List ℕ)
screen s = with_frozen s.frozen (painted_screen s)
