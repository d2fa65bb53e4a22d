-- A step that only moves does so too where nothing is refused yet.
use Rattle.key_words.specs.declared.key.Key.{Key}
use Rattle.key_words.specs.declared.key.Key.TheVariants as key
use Rattle.session_core.specs.Machine.{afresh, State}
use Rattle.session_core.specs.Moving.{OnlyMovesBy, OnlyMovesByPress}
use Rattle.session_core.specs.declared.event.Event.{Event}
use Rattle.session_core.specs.declared.event.Event.TheVariants.{Key as KeyEvent, Unit as UnitEvent}

pressed_afresh : (k : Key) (s : State) → OnlyMovesByPress k s → OnlyMovesByPress k (afresh s)
pressed_afresh (key.Byte b) s h = h
pressed_afresh key.Enter s h = h
pressed_afresh key.Up s h = h
pressed_afresh key.Down s h = h
pressed_afresh key.Left s h = h
pressed_afresh key.Right s h = h
pressed_afresh key.Home s h = h
pressed_afresh key.End s h = h
pressed_afresh key.PgUp s h = h
pressed_afresh key.PgDn s h = h
pressed_afresh key.BigLeft s h = h
pressed_afresh key.BigRight s h = h
pressed_afresh key.Esc s h = h
pressed_afresh key.Bs s h = h
pressed_afresh key.Del s h = h
pressed_afresh key.Edit s h = h
pressed_afresh key.Name s h = h
pressed_afresh key.Abs s h = h
pressed_afresh key.Goto s h = h
pressed_afresh key.Window s h = h
pressed_afresh key.Query s h = h
pressed_afresh key.Table s h = h
pressed_afresh key.Calc s h = h
pressed_afresh key.Graph s h = h
pressed_afresh key.Break s h = h
pressed_afresh key.Undo s h = h
pressed_afresh (key.Alt letter) s h = h

-- what only moves the pointer only moves it where nothing is refused yet, too
pub moves_afresh : (e : Event) (s : State) → OnlyMovesBy e s → OnlyMovesBy e (afresh s)
moves_afresh (KeyEvent k) s h = (pressed_afresh k s h.0, h.1)
moves_afresh UnitEvent s h = h
