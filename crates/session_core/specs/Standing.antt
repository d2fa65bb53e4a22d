-- What a run is told of a step, and of the session where it ends.
use Rattle.std.specs.Prelude.{ℕ, Bool, true, false, not, ◌&&◌, List, codes, Option}
use Rattle.session_rooms.specs.declared.panel.Mode.{Mode}
use Rattle.session_rooms.specs.declared.panel.Mode.TheVariants.{Ready}
use Rattle.screen_layout.specs.Control.{mode_name}
use Rattle.session_rooms.specs.declared.rooms.Room.{Room}
use Rattle.session_rooms.specs.declared.rooms.Room.TheVariants as room
use Rattle.session_core.specs.Machine.{is_running, State}
use Rattle.session_core.specs.Pressing.{room_panel}
use Rattle.session_core.specs.Refusing.{told_by}

-- what the last step refused, as it is told; none where it refused nothing
abbrev pub refused : State → Option (List ℕ)
refused s = told_by s.refusal s.room

-- READY
abbrev pub is_ready : Room → Bool
is_ready room.Ready = true
is_ready _ = false

-- nothing is left undone: the session is in READY, and no macro is at work
abbrev pub is_at_rest : State → Bool
is_at_rest s = is_ready s.room && not (is_running s)

-- a mode that is left, where READY stands for a macro at work
abbrev pub left_mode : Mode → List ℕ
left_mode Ready = codes "CMD"
left_mode m = mode_name m

-- the mode that the session is left in, or CMD where that is READY
abbrev pub left_in : State → List ℕ
left_in s = left_mode (room_panel s.room).mode
