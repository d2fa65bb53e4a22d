-- How the session keeps in mind what the lines of its screen hang on beside the cells: it paints only the lines for
-- which that is otherwise than before.
use Rattle.std.specs.Prelude.{◌≡◌, ⊤, ℕ, ◌+◌, ◌-◌, ◌/◌, ◌%◌, ◌≤◌, ◌<◌, ◌&&◌, nat_eq, length, Bool, true, false, not, is_some, if◌then◌else◌, Option, None, Some}
use Rattle.session_rooms.specs.declared.panel.Mode.{Mode}
use Rattle.session_rooms.specs.declared.panel.Mode.TheVariants.{Ready, Menu}
use Rattle.screen_layout.specs.Foot.{wants_recalculation}
use Rattle.session_rooms.specs.declared.rooms.Room.{Room}
use Rattle.session_rooms.specs.declared.rooms.Room.TheVariants as room
use Rattle.room_keys.specs.typing.Room.{told_mode}
use Rattle.session_core.specs.inner.Still.{still_of}
use Rattle.session_core.specs.Machine.{is_running, sheet_of, State}
use Rattle.session_core.specs.inner.Showing.{shows_waiting}
use Rattle.session_core.specs.inner.Touches.{touches_row}
use Rattle.session_core.specs.declared.glance.Foot.{Foot}
use Rattle.session_core.specs.declared.glance.Glance.{Glance}
use Rattle.session_core.specs.declared.glance.Instant.{Instant}
use Rattle.session_core.specs.declared.glance.Marks.{Marks}
use Rattle.session_core.specs.declared.glance.Still.{Still}
use Rattle.session_core.specs.declared.touched.Touched.{Touched}
use Rattle.session_core.specs.declared.touched.Touched.TheVariants.{Nothing, Anything}

-- the mode that is told in READY, while a line is typed into a cell and in a menu, where the panel shows nothing else
-- of the room but that line or the menu
abbrev pub plain_mode : Room → Option Mode
plain_mode room.Ready = Some Ready
plain_mode (room.Typing r) = Some (told_mode r.mode)
plain_mode (room.Pointing r) = None
plain_mode (room.Menu r) = Some Menu
plain_mode (room.Asking r) = None
plain_mode (room.Failed message) = None

-- no macro shows its own line or menu, nor a text in the mode's place
abbrev pub is_plain : State → Bool
is_plain s = not (shows_waiting s.running) && nat_eq (length s.indicate) 0

-- the mode that is then told; none where one does
abbrev pub told_plainly : State → Option Mode
told_plainly s = if is_plain s then plain_mode s.room else None

-- when the last step was made
abbrev pub instant_of : State → Instant
instant_of s = record { day = s.day; second = s.second }

-- what the last line marks
abbrev pub marks_of : State → Marks
marks_of s = record {
  calc = wants_recalculation (sheet_of s);
  circ = (sheet_of s).circular;
  end = s.end;
  running = is_running s;
}

-- what the lines hang on beside the cells, the line that is typed and the menu
abbrev pub glance_of : State → Glance
glance_of s = record {
  corner = s.corner;
  still = still_of s.frozen;
  mode = told_plainly s;
  foot = record { instant = instant_of s; marks = marks_of s };
}

-- An area's lines are the same: it stands still after a step, or it did neither before nor after, and what they hang on
-- is the same.
abbrev pub Stays : Bool → Bool → Type 0 → Type 0
Stays before true P = ⊤
Stays true false P = ⊥
Stays false false P = P

-- what the pointer's line hangs on is the same
abbrev pub KeepsPointer : Touched → Glance → Glance → Type 0
KeepsPointer x a b = (x ≡ Nothing) × ((is_some a.mode ≡ true) × (b.mode ≡ a.mode))

-- no line is typed
abbrev pub KeepsTyped : Glance → Glance → Type 0
KeepsTyped a b = (a.mode ≡ Some Ready) × (b.mode ≡ Some Ready)

-- the mode is told, and no menu stands there
abbrev pub lacks_menu : Option Mode → Bool
lacks_menu None = false
lacks_menu (Some Menu) = false
lacks_menu (Some mode) = true

-- nothing stands below the line that is typed
abbrev pub KeepsBelow : Glance → Glance → Type 0
KeepsBelow a b = (lacks_menu a.mode ≡ true) × (lacks_menu b.mode ≡ true)

-- what the columns' letters hang on is the same
abbrev pub KeepsLetters : Touched → Glance → Glance → Type 0
KeepsLetters x a b = (x ≡ Anything → ⊥) × (b.corner.col ≡ a.corner.col)

-- what a row's line hangs on is the same
abbrev pub KeepsRow : Touched → Glance → Glance → ℕ → Type 0
KeepsRow x a b n = (touches_row x a.corner.row (a.corner.row + (n - 4)) ≡ false) × (b.corner ≡ a.corner)

-- the hour and the minute of two seconds of a day are the same
abbrev pub IsSameMinute : ℕ → ℕ → Type 0
IsSameMinute x y = (x / 3600 ≡ y / 3600) × (x / 60 % 60 ≡ y / 60 % 60)

-- what the last line hangs on is the same
abbrev pub IsSameFoot : Foot → Foot → Type 0
IsSameFoot a b =
    (a.instant.day ≡ b.instant.day) × (IsSameMinute a.instant.second b.instant.second × (a.marks ≡ b.marks))

-- no area stands still before and after a step
abbrev pub IsNoneStill : Still → Still → Type 0
IsNoneStill a b = ((a.panel ≡ false) × (b.panel ≡ false)) × ((a.windows ≡ false) × (b.windows ≡ false))

-- a step begins and ends in READY with the same last line, where no area stands still
abbrev pub IsCalm : Glance → Glance → Type 0
IsCalm a b = IsNoneStill a.still b.still × (KeepsTyped a b × IsSameFoot b.foot a.foot)

-- what a line of the screen hangs on is before and after a step the same
pub record IsKept (touched : Touched) (a b : Glance) (n : ℕ) : Type 0 where
  pub pointer : n ≡ 0 → Stays a.still.panel b.still.panel (KeepsPointer touched a b)
  pub typed : n ≡ 1 → Stays a.still.panel b.still.panel (KeepsTyped a b)
  pub below : n ≡ 2 → Stays a.still.panel b.still.panel (KeepsBelow a b)
  pub letters : n ≡ 3 → Stays a.still.windows b.still.windows (KeepsLetters touched a b)
  pub rows : 4 ≤ n → n < 24 → Stays a.still.windows b.still.windows (KeepsRow touched a b n)
  pub foot : n ≡ 24 → (is_some a.mode ≡ true) × ((is_some b.mode ≡ true) × IsSameFoot b.foot a.foot)
