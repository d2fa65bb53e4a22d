-- An error that no macro catches is told.
use Rattle.std.proofs.Common.{◌≡◌, ℕ, Bool, true, false, List, [], Option, None, Some, ap, refl, sym, ◌∙◌}
use Rattle.std.proofs.lemmas.Bool.{false≢true}
use Rattle.std.specs.Prelude.{is_some}
use Rattle.command_desk.specs.declared.ending.CommandEnd.{CommandEnd}
use Rattle.command_desk.specs.declared.ending.CommandEnd.TheVariants.{Finished, Quits, Refused}
use Rattle.commands_file.specs.Calls.{HaveAnswered, ShelfView}
use Rattle.desk_errors.specs.declared.error.CommandError.{CommandError}
use Rattle.desk_errors.specs.Messages.{message_of}
use Rattle.formula_parts.specs.declared.look.Scene.{Scene}
use Rattle.macro_engine.specs.Catching.{caught, caught_by, handles_errors, Caught}
use Rattle.macro_words.specs.declared.running.Handler.{Handler}
use Rattle.macro_words.specs.declared.running.Running.{Running}
use Rattle.menu_tree.specs.declared.menu.Action.{Action}
use Rattle.work_sheet.specs.Doing.{quiet as undone}
use Rattle.work_sheet.specs.Seen.{Sheet}
use Rattle.session_core.specs.Carrying.{caught_as, failed, left_by, room_behind, told}
use Rattle.session_core.specs.Machine.{quiet, sheet_of, State}

-- the macro stops, and nothing is done to the sheet
abbrev stopped : Sheet → Caught
stopped s = record { running = None; done = undone s }

by_handler : (scene : Scene) (message : List ℕ) (r : Running) (h : Option Handler) (s : Sheet) → is_some h ≡ false →
    caught_by scene message (Some r) h s ≡ stopped s
by_handler scene message r None s none = refl
by_handler scene message r (Some h) s none = absurd (false≢true (sym none))

unhandled : (scene : Scene) (message : List ℕ) (running : Option Running) (s : Sheet) → handles_errors running ≡ false →
    caught scene message running s ≡ stopped s
unhandled scene message None s none = refl
unhandled scene message (Some r) s none = by_handler scene message r r.handler s none

told_as : (e : CommandError) (scene : Scene) (s : State) (handles : Bool) → handles ≡ false →
    caught_as (stopped (sheet_of s)) (room_behind handles e) s ≡ quiet (told (message_of e) s)
told_as e scene s false none = refl
told_as e scene s true none = absurd (false≢true (sym none))

-- an error without a place for it is told
pub failed_untold : (e : CommandError) (scene : Scene) (s : State) → handles_errors s.running ≡ false →
    failed e scene s ≡ quiet (told (message_of e) s)
unfolding failed
failed_untold e scene s none =
    ap (λ (c : Caught). caught_as c (room_behind (handles_errors s.running) e) s)
    (unhandled scene (message_of e) s.running (sheet_of s) none)
    ∙ told_as e scene s (handles_errors s.running) none

-- an error makes no call of the shelf, and doesn't end the run
pub failed_calls : (e : CommandError) (scene : Scene) (s : State) → (failed e scene s).calls ≡ []
unfolding failed
failed_calls e scene s = refl

-- what follows behind a command makes no call of the shelf
pub left_calls : (end : CommandEnd) (action : Action) (scene : Scene) (s : State)
    → (left_by end action scene s).calls ≡ []
left_calls Finished action scene s = refl
left_calls Quits action scene s = refl
left_calls (Refused e) action scene s = failed_calls e scene s

-- an error leaves the shelf
pub failed_alone : (e : CommandError) (scene : Scene) (s : State) (v : ShelfView)
    → HaveAnswered (failed e scene s).calls v v
unfolding failed
failed_alone e scene s v = refl
