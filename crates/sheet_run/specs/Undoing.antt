-- Commands of a run, one after another, and the undos that take them back.
use Rattle.std.specs.Prelude.{◌≡◌, ⊤, true, false, List, [], ◌∷◌, ◌++◌}
use Rattle.command_desk.specs.Desks.{on_sheet}
use Rattle.key_words.specs.declared.key.Key.TheVariants as key
use Rattle.session_core.specs.Machine.{sheet_of, State}
use Rattle.session_core.specs.Standing.{is_at_rest}
use Rattle.session_core.specs.Undoing.{GoesForward}
use Rattle.session_core.specs.declared.event.Event.TheVariants.{Key as KeyEvent}
use Rattle.sheet_undo.specs.Histories.{IsAlike}
use Rattle.sheet_run.specs.Run.{after, calls_of, outcome, Fit, Step}

-- none of these steps takes a command back
abbrev pub GoForward : State → List Step → Type 0
GoForward s [] = ⊤
GoForward s (x ∷ xs) = GoesForward x.event s × GoForward (outcome s x).state xs

-- behind each of these steps the session isn't in READY, or a macro runs
abbrev pub AreUnderWay : State → List Step → Type 0
AreUnderWay s [] = ⊤
AreUnderWay s (x ∷ xs) = (is_at_rest (outcome s x).state ≡ false) × AreUnderWay (outcome s x).state xs

-- The steps of a command that changed the sheet: they go to the next state in READY outside a macro, and none of them
-- takes a command back.
pub record IsCommand (s : State) (steps : List Step) : Type 0 where
  pub front : List Step
  pub last : Step
  pub steps_are : steps ≡ front ++ last ∷ []
  pub fit : Fit s steps
  pub forward : GoForward s steps
  pub under_way : AreUnderWay s front
  pub rests : is_at_rest (after s steps) ≡ true
  pub differs : IsAlike (sheet_of s) (sheet_of (after s steps)) → ⊥

-- such commands, one after another
abbrev pub AreCommands : State → List (List Step) → Type 0
AreCommands s [] = ⊤
AreCommands s (c ∷ cs) = IsCommand s c × AreCommands (after s c) cs

-- the state behind them
abbrev pub after_all : State → List (List Step) → State
after_all s [] = s
after_all s (c ∷ cs) = after_all (after s c) cs

-- each of these steps takes UNDO
abbrev pub AreUndos : List Step → Type 0
AreUndos [] = ⊤
AreUndos (x ∷ xs) = (x.event ≡ KeyEvent key.Undo) × AreUndos xs

-- These steps made the sheet that of another state: its cells and values, names, columns, settings, pointer and marks.
-- The rest of the desk stays, which is the ranges that commands keep, what Print keeps and the file name; the attached
-- text file stays; and no file does otherwise, since no call of the shelf is made.
pub record GiveBack (s t : State) (steps : List Step) : Type 0 where
  pub desk : (after t steps).desk ≡ on_sheet t.desk (sheet_of s)
  pub channel : (after t steps).channel ≡ t.channel
  pub no_calls : calls_of t steps ≡ []
