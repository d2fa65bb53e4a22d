-- A byte that goes into the line that is typed.
use Rattle.std.specs.Prelude.{◌≡◌, ℕ, Bool, true, false, if◌then◌else◌, length, nat_lt, refl, None}
use Rattle.std.proofs.Common.{ap, rules, subst, sym}
use Rattle.std.proofs.lemmas.Bool.{false≢true}
use Rattle.entry_line.specs.declared.event.LineEvent.TheVariants.{Going, LineFull}
use Rattle.formula_parts.specs.declared.look.Scene.{Scene}
use Rattle.grid_address.specs.Place.{Place}
use Rattle.key_words.specs.declared.key.Key.TheVariants as key
use Rattle.lics_text.specs.Limits.{MAX_LEN}
use Rattle.commands_file.specs.Calls.{ShelfView}
use Rattle.session_core.proofs.Alone.{alone, no_replies}
use Rattle.serial_date.specs.declared.moment.Moment.{Moment}
use Rattle.session_core.specs.Machine.{idle, quiet, scene_at, Outcome, Replies, State}
use Rattle.session_core.specs.inner.Leading.{Leads, LeadsOver, Worked}
use Rattle.session_core.specs.Pressing.{turn_of}
use Rattle.session_core.specs.Refusing.{key_refused}
use Rattle.session_core.specs.Step.{begun_and_carried, by_key}
use Rattle.session_core.specs.inner.Typing.{is_line_typed, typed_on, with_byte}
use Rattle.session_core.specs.declared.refusal.Refusal.TheVariants as refusal
use Rattle.session_rooms.specs.declared.rooms.Room.{Room}
use Rattle.session_rooms.specs.declared.rooms.Room.TheVariants as room
use Rattle.session_rooms.specs.declared.rooms.TypingMode.{TypingMode}
use Rattle.session_rooms.specs.declared.rooms.TypingMode.TheVariants.{Label, Value, Edit}
use Rattle.session_rooms.specs.declared.rooms.TypingRoom.{TypingRoom}
use Rattle.session_rooms.specs.declared.turn.Turn.{Turn}
use Rattle.session_rooms.specs.declared.turn.Turn.TheVariants as turn
use Rattle.sheet_store.specs.Grid.{Grid}
use Rattle.room_keys.specs.typing.Room.{edited, keyed, press_by}

-- a line goes on, also where it is full
edited_on : (fits : Bool) (r : TypingRoom) →
    edited (if fits then Going else LineFull) None r ≡ turn.Become (room.Typing r)
edited_on true r = refl
edited_on false r = refl

-- a byte goes into the line in each mode
byte_pressed : (m : TypingMode) (b : ℕ) (g : Grid) (pointer : Place) (r : TypingRoom) →
    press_by m (key.Byte b) g pointer r ≡ turn.Become (room.Typing (keyed (key.Byte b) r))
byte_pressed Label b g pointer r = refl
byte_pressed Value b g pointer r = refl
byte_pressed Edit b g pointer r = edited_on (nat_lt (length r.line.text) MAX_LEN) (keyed (key.Byte b) r)

-- the same by the room
byte_carried : (x : Room) (b : ℕ) (replies : Replies) (scene : Scene) (s : State)
    → is_line_typed x ≡ true → begun_and_carried (turn_of (key.Byte b) x s.end s.desk) replies scene
    (record (idle s) { refusal = key_refused (key.Byte b) x })
    ≡ quiet (record s { room = with_byte b x; end = false; refusal = refusal.Nothing })
byte_carried (room.Typing r) b replies scene s typed =
    ap (λ (t : Turn). begun_and_carried t replies scene (record (idle s) { refusal = refusal.Nothing }))
    (byte_pressed r.mode b s.desk.sheet.grid s.desk.sheet.settings.pointer r)
byte_carried room.Ready b replies scene s typed = absurd (false≢true typed)
byte_carried (room.Pointing r) b replies scene s typed = absurd (false≢true typed)
byte_carried (room.Menu r) b replies scene s typed = absurd (false≢true typed)
byte_carried (room.Asking r) b replies scene s typed = absurd (false≢true typed)
byte_carried (room.Failed message) b replies scene s typed = absurd (false≢true typed)

-- a byte that is taken while a line is typed goes into it, and that is all
pub byte_taken : (b : ℕ) (replies : Replies) (scene : Scene) (s : State) → is_line_typed s.room ≡ true →
    by_key (key.Byte b) replies scene s ≡ quiet (typed_on b s)
byte_taken b replies scene s typed = byte_carried s.room b replies scene s typed

-- so it leads on to that, and makes no call of the shelf
pub byte_over : (b : ℕ) (now : Moment) (before behind : Worked) (v : ShelfView) →
    is_line_typed before.state.room ≡ true → behind.state ≡ typed_on b before.state → behind.work ≡ before.work →
    LeadsOver (by_key (key.Byte b)) now false before behind v v
byte_over b now before behind v typed state_is work_is =
    let scene : Scene = scene_at before.state now in
    let same : by_key (key.Byte b) no_replies scene before.state ≡ quiet (typed_on b before.state) =
    byte_taken b no_replies scene before.state typed in
    let leads : Leads (quiet (typed_on b before.state)) false before behind = search rules in
    alone (by_key (key.Byte b)) now false before behind v
    (subst (λ (o : Outcome). Leads o false before behind) (sym same) leads) (ap (λ (o : Outcome). o.calls) same)
