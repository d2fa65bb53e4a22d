-- Commands that undo takes back.
use Rattle.std.specs.Prelude.{◌≡◌, ⊤, true, None}
use Rattle.key_words.specs.declared.key.Key.{Key}
use Rattle.session_rooms.specs.declared.turn.Turn.TheVariants as turn
use Rattle.session_core.specs.Machine.{is_running, State}
use Rattle.session_core.specs.Pressing.{turn_of}
use Rattle.session_core.specs.Standing.{is_at_rest}
use Rattle.session_core.specs.declared.event.Event.{Event}
use Rattle.session_core.specs.declared.event.Event.TheVariants.{Key as KeyEvent, Unit as UnitEvent}

-- READY outside a macro, where no command is begun
pub record Rests (s : State) : Type 0 where
  pub ready : is_at_rest s ≡ true
  pub none : s.history.begun ≡ None

-- a key asks for the last command to be taken back
abbrev pub AsksBack : Key → State → Type 0
AsksBack k s = turn_of k s.room s.end s.desk ≡ turn.Undo

-- an event takes no command back: it doesn't ask for that, or a macro runs, which passes that over
abbrev pub GoesForward : Event → State → Type 0
GoesForward (KeyEvent k) s = AsksBack k s → is_running s ≡ true
GoesForward UnitEvent s = ⊤
