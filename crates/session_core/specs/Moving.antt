-- Which steps only move the pointer, or type.
use Rattle.std.specs.Prelude.{◌≡◌, ⊤, false, Option, None}
use Rattle.grid_address.specs.Place.{Place}
use Rattle.key_words.specs.declared.key.Key.{Key}
use Rattle.key_words.specs.declared.key.Key.TheVariants as key
use Rattle.macro_engine.specs.Keys.{takes_key}
use Rattle.macro_words.specs.declared.running.Running.{Running}
use Rattle.session_rooms.specs.declared.rooms.Room.{Room}
use Rattle.session_rooms.specs.declared.rooms.Room.TheVariants as room
use Rattle.session_rooms.specs.declared.turn.Turn.{Turn}
use Rattle.session_rooms.specs.declared.turn.Turn.TheVariants as turn
use Rattle.work_sheet.specs.Doing.{with_pointer}
use Rattle.work_sheet.specs.Seen.{Sheet}
use Rattle.session_core.specs.Machine.{State}
use Rattle.session_core.specs.Pressing.{turn_of}
use Rattle.session_core.specs.declared.event.Event.{Event}
use Rattle.session_core.specs.declared.event.Event.TheVariants.{Key as KeyEvent, Unit as UnitEvent}

-- the pointer alone may have moved
abbrev pub IsMoved : Sheet → Sheet → Type 0
IsMoved s t = (p : Place) × (t ≡ with_pointer p s)

-- no answer of a prompt is kept
abbrev pub KeepsNoAnswer : Room → Type 0
KeepsNoAnswer (room.Asking r) = ⊥
KeepsNoAnswer r = Unit {0}

-- nothing is kept of the key beside the session's own line: any key outside a prompt, and BREAK
abbrev pub TakesNoMemory : Key → Room → Type 0
TakesNoMemory key.Break r = Unit {0}
TakesNoMemory k r = KeepsNoAnswer r

-- the session does something else, the pointer moves, END is marked, or outside a macro an error is told
abbrev pub OnlyMoves : Turn → Option Running → Type 0
OnlyMoves (turn.Become r) running = Unit {0}
OnlyMoves (turn.Move way) running = Unit {0}
OnlyMoves turn.Mark running = Unit {0}
OnlyMoves (turn.Fail e) running = running ≡ None
OnlyMoves t running = ⊥

-- a key that only moves the pointer, types or is passed over, where the session takes it
abbrev pub OnlyMovesByKey : Key → State → Type 0
OnlyMovesByKey k s = TakesNoMemory k s.room × OnlyMoves (turn_of k s.room s.end s.desk) s.running

-- the same, where no macro takes it
abbrev pub OnlyMovesGiven : Key → State → Type 0
OnlyMovesGiven k s = (takes_key k s.running ≡ false) × OnlyMovesByKey k s

-- a key that is pressed does no more; BREAK never does
abbrev pub OnlyMovesByPress : Key → State → Type 0
OnlyMovesByPress key.Break s = ⊤
OnlyMovesByPress k s = OnlyMovesGiven k s

-- an event that does no more, where no command is begun: in READY outside a macro none is
abbrev pub OnlyMovesBy : Event → State → Type 0
OnlyMovesBy (KeyEvent k) s = OnlyMovesByPress k s × (s.history.begun ≡ None)
OnlyMovesBy UnitEvent s = ⊥
