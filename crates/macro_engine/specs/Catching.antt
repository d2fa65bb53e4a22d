-- Errors that a macro catches by ONERROR.
use Rattle.std.specs.Prelude.{◌≡◌, ℕ, Bool, is_some, List, [], ◌∷◌, Option, None, Some, if◌then◌else◌}
use Rattle.block_writes.specs.Writing.{written}
use Rattle.formula_parts.specs.declared.look.Scene.{Scene}
use Rattle.grid_address.specs.Place.{Place}
use Rattle.macro_text.specs.Units.{start_of}
use Rattle.macro_words.specs.Moves.{going}
use Rattle.macro_words.specs.Values.{label}
use Rattle.macro_words.specs.declared.running.Change.TheVariants as change
use Rattle.macro_words.specs.declared.running.Handler.{Handler}
use Rattle.macro_words.specs.declared.running.Running.{Running}
use Rattle.sheet_edits.specs.Edits.{is_protected}
use Rattle.work_sheet.specs.Did.{Did}
use Rattle.work_sheet.specs.Doing.{quiet, Done}
use Rattle.work_sheet.specs.Seen.{Sheet}
use Rattle.work_sheet.specs.Sheets.{Worksheet}
use Rattle.macro_engine.specs.Changes.{changed}

-- the place for errors of the macro that runs
abbrev pub handler_of : Option Running → Option Handler
handler_of None = None
handler_of (Some r) = r.handler

-- whether a macro runs that has a place for errors
abbrev pub handles_errors : Option Running → Bool
handles_errors running = is_some (handler_of running)

-- the message of an error is put into its cell as a label, unless no cell was given or it is protected
abbrev pub told : Scene → List ℕ → Option Place → Sheet → Done
told scene message None s = quiet s
told scene message (Some c) s =
    if is_protected s.settings s.grid c then quiet s
    else changed scene (change.Write (written c (label message) ∷ [])) s

-- the macro behind an error, which stopped where there is none, and what was done to the sheet
pub record Caught : Type 0 where
  pub running : Option Running
  pub done : Done

-- the macro goes on at the place for errors, in the calls and loops that it was in, waits for nothing, and has no such
-- place any more
abbrev pub gone_on : Running → Handler → Running
gone_on r h = going (start_of h.place) (record r { handler = None })

-- an error, by the place for it; without one the macro stops
abbrev pub caught_by : Scene → List ℕ → Option Running → Option Handler → Sheet → Caught
caught_by scene message (Some r) (Some h) s =
    record { running = Some (gone_on r h); done = told scene message h.message s }
caught_by scene message _ _ s = record { running = None; done = quiet s }

-- A macro that runs meets an error with this message: it goes on at its place for errors, or stops.
abbrev pub caught : Scene → List ℕ → Option Running → Sheet → Caught
caught scene message running s = caught_by scene message running (handler_of running) s

-- It did so: it left this macro, made of a worksheet another, and of a count of evaluations another.
pub record HasCaught (x : Caught) (now : Option Running) (v w : Worksheet) (m n : ℕ) : Type 0 where
  pub running : now ≡ x.running
  pub did : Did x.done v w m n
