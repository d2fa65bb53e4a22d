-- A command that is begun where a key can change the sheet, and one that is ended.
use Rattle.std.proofs.Common.{◌≡◌, Bool, true, false, Option, None, ap, refl, sym, subst, ◌∙◌, ◌⊎◌, inl, inr}
use Rattle.std.specs.Prelude.{if◌then◌else◌}
use Rattle.std.proofs.lemmas.Bool.{and_right}
use Rattle.commands_file.specs.Calls.{ShelfView}
use Rattle.formula_parts.specs.declared.look.Scene.{Scene}
use Rattle.key_words.specs.declared.key.Key.{Key}
use Rattle.key_words.specs.declared.key.Key.TheVariants as key
use Rattle.macro_engine.specs.Catching.{handles_errors}
use Rattle.macro_engine.specs.Keys.{broken_off}
use Rattle.macro_words.specs.declared.running.Running.{Running}
use Rattle.serial_date.specs.declared.moment.Moment.{Moment}
use Rattle.session_rooms.specs.declared.turn.Turn.{Turn}
use Rattle.session_rooms.specs.declared.turn.Turn.TheVariants as turn
use Rattle.sheet_undo.specs.Histories.{ended, History}
use Rattle.session_core.specs.Carrying.{carried}
use Rattle.session_core.specs.Keeping.{begun_for, command_ended, is_at_end, with_history}
use Rattle.session_core.specs.Machine.{scene_at, sheet_of, with_macro, Outcome, Replies, State}
use Rattle.session_core.specs.inner.Leading.{LeadsOver, Worked}
use Rattle.session_core.specs.Moving.{IsMoved, OnlyMoves, OnlyMovesBy, OnlyMovesByKey, OnlyMovesByPress, OnlyMovesGiven}
use Rattle.session_core.specs.Pressing.{turn_of}
use Rattle.session_core.specs.Step.{by_key, by_waiting_macro, event_taken, given, pressed_key, typed_into}
use Rattle.session_core.specs.declared.event.Event.{Event}
use Rattle.session_core.specs.declared.event.Event.TheVariants.{Key as KeyEvent, Unit as UnitEvent}
use Rattle.session_core.proofs.Failing.{failed_untold}
use Rattle.session_core.proofs.Stepping.{only_given, pressed_given}

-- a state that differs in its history alone
pub record IsBeside (s t : State) : Type 0 where
  pub history : History
  pub is : t ≡ with_history history s

-- the beginning of a command changes the history alone
pub begun_beside : (t : Turn) (s : State) → IsBeside s (begun_for t s)
begun_beside (turn.Become r) s = record { history = _; is = refl }
begun_beside (turn.Move way) s = record { history = _; is = refl }
begun_beside turn.Mark s = record { history = _; is = refl }
begun_beside (turn.Finish way line) s = record { history = _; is = refl }
begun_beside (turn.Ask c) s = record { history = _; is = refl }
begun_beside (turn.Act c) s = record { history = _; is = refl }
begun_beside turn.Recalculate s = record { history = _; is = refl }
begun_beside (turn.Start letter) s = record { history = _; is = refl }
begun_beside turn.Undo s = record { history = _; is = refl }
begun_beside (turn.Fail e) s = record { history = _; is = refl }

either_beside : (b : Bool) (h : History) (s : State) → IsBeside s (if b then with_history h s else s)
either_beside true h s = record { history = h; is = refl }
either_beside false h s = record { history = s.history; is = refl }

-- the end of a command changes the history alone
pub ended_beside : (changed : Bool) (s : State) → IsBeside s (command_ended changed s)
ended_beside changed s = either_beside (is_at_end s) (ended changed s.history.begun s.history.kept) s

-- where no command is begun, none is at its end
pub none_at_end : (s : State) → s.history.begun ≡ None → is_at_end s ≡ false
none_at_end s none = rw none (and_right _ false refl)

-- where no command is at its end, the state stays as it is
pub not_over : (changed : Bool) (s : State) → is_at_end s ≡ false → command_ended changed s ≡ s
not_over changed s none =
    ap (λ (b : Bool). if b then with_history (ended changed s.history.begun s.history.kept) s else s) none

-- what is told of the key is told behind the beginning of a command
module _ (k : Key) (t : Turn) (s mid u : State) (turn_is : t ≡ turn_of k s.room s.end s.desk)
    (is : mid ≡ begun_for t (typed_into k s)) where
  mid_is : mid ≡ with_history (begun_beside t (typed_into k s)).history (typed_into k s)
  mid_is = is ∙ (begun_beside t (typed_into k s)).is

  -- behind the beginning of a command the turn only moves the pointer, where the key does
  pub only_over : OnlyMovesByKey k s → OnlyMoves t mid.running
  only_over p =
      subst (λ (r : Option Running). OnlyMoves t r) (sym (ap (λ (v : State). v.running) mid_is))
      (subst (λ (v : Turn). OnlyMoves v s.running) (sym turn_is) p.1)

  -- a pointer that moved behind the beginning of a command moved since the key came
  pub moved_over : (OnlyMoves t mid.running → IsMoved (sheet_of mid) (sheet_of u)) → OnlyMovesByKey k s →
      IsMoved (sheet_of s) (sheet_of u)
  moved_over moved p = subst (λ (v : State). IsMoved (sheet_of v) (sheet_of u)) mid_is (moved (only_over p))

-- what only moves begins no command
moves_none : (t : Turn) (replies : Replies) (scene : Scene) (s : State) → OnlyMoves t s.running →
    s.history.begun ≡ None → (carried t replies scene (begun_for t s)).state.history.begun ≡ None
moves_none (turn.Become r) replies scene s only none = none
moves_none (turn.Move way) replies scene s only none = none
moves_none turn.Mark replies scene s only none = none
moves_none (turn.Finish way line) replies scene s only none = absurd only
moves_none (turn.Ask c) replies scene s only none = absurd only
moves_none (turn.Act c) replies scene s only none = absurd only
moves_none turn.Recalculate replies scene s only none = absurd only
moves_none (turn.Start letter) replies scene s only none = absurd only
moves_none turn.Undo replies scene s only none = absurd only
moves_none (turn.Fail e) replies scene s only none =
    ap (λ (o : Outcome). o.state.history.begun) (failed_untold e scene s (ap handles_errors only)) ∙ none

key_none : (k : Key) (replies : Replies) (scene : Scene) (s : State) → OnlyMovesByKey k s →
    s.history.begun ≡ None → (by_key k replies scene s).state.history.begun ≡ None
key_none k replies scene s p none = moves_none (turn_of k s.room s.end s.desk) replies scene (typed_into k s) p.1 none

given_none : (k : Key) (replies : Replies) (scene : Scene) (s : State) → OnlyMovesGiven k s →
    s.history.begun ≡ None → (given k replies scene s).state.history.begun ≡ None
given_none k replies scene s p none =
    ap (λ (b : Bool). (if b then by_waiting_macro k replies scene s else by_key k replies scene s).state.history.begun)
    p.0
    ∙ key_none k replies scene s p.1 none

-- BREAK, or another key
pub break_or : (k : Key) → (k ≡ key.Break) ⊎ (k ≡ key.Break → ⊥)
break_or key.Break = inl refl
break_or (key.Byte b) = inr (λ e. cc)
break_or key.Enter = inr (λ e. cc)
break_or key.Up = inr (λ e. cc)
break_or key.Down = inr (λ e. cc)
break_or key.Left = inr (λ e. cc)
break_or key.Right = inr (λ e. cc)
break_or key.Home = inr (λ e. cc)
break_or key.End = inr (λ e. cc)
break_or key.PgUp = inr (λ e. cc)
break_or key.PgDn = inr (λ e. cc)
break_or key.BigLeft = inr (λ e. cc)
break_or key.BigRight = inr (λ e. cc)
break_or key.Esc = inr (λ e. cc)
break_or key.Bs = inr (λ e. cc)
break_or key.Del = inr (λ e. cc)
break_or key.Edit = inr (λ e. cc)
break_or key.Name = inr (λ e. cc)
break_or key.Abs = inr (λ e. cc)
break_or key.Goto = inr (λ e. cc)
break_or key.Window = inr (λ e. cc)
break_or key.Query = inr (λ e. cc)
break_or key.Table = inr (λ e. cc)
break_or key.Calc = inr (λ e. cc)
break_or key.Graph = inr (λ e. cc)
break_or key.Undo = inr (λ e. cc)
break_or (key.Alt letter) = inr (λ e. cc)

pressed_by : (k : Key) (replies : Replies) (scene : Scene) (s : State) → (k ≡ key.Break) ⊎ (k ≡ key.Break → ⊥) →
    OnlyMovesByPress k s → s.history.begun ≡ None → (pressed_key k replies scene s).state.history.begun ≡ None
pressed_by k replies scene s (inl is) p none =
    ap (λ (j : Key). (pressed_key j replies scene s).state.history.begun) is
    ∙ key_none key.Break replies scene (with_macro (broken_off s.running) s) (tt, tt) none
pressed_by k replies scene s (inr other) p none =
    ap (λ (act : Replies → Scene → State → Outcome). (act replies scene s).state.history.begun) (pressed_given k other)
    ∙ given_none k replies scene s (only_given k s other p) none

-- so it ends none
none_ends : (event : Event) (replies : Replies) (scene : Scene) (s : State) → OnlyMovesBy event s →
    is_at_end (event_taken event replies scene s).state ≡ false
none_ends (KeyEvent k) replies scene s p =
    none_at_end (event_taken (KeyEvent k) replies scene s).state (pressed_by k replies scene s (break_or k) p.0 p.1)
none_ends UnitEvent replies scene s p = absurd p

-- the same of the machine
pub moving_ends_none : (event : Event) (now : Moment) (told : Bool) (a mid : Worked) (x y : ShelfView) →
    LeadsOver (event_taken event) now told a mid x y → OnlyMovesBy event a.state → is_at_end mid.state ≡ false
moving_ends_none event now told a mid x y l p =
    ap (λ (s : State). is_at_end s) l.leads.state ∙ none_ends event l.replies (scene_at a.state now) a.state p
