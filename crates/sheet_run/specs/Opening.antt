-- How a run begins: the start file is asked for, where the words name one, or a sheet is generated, where they say of
-- how many rows; that sheet, or a fresh one, is recalculated.
use Rattle.std.specs.Prelude.{◌≡◌, ℕ, ⊤, ◌⊎◌, List, [], ◌∷◌, ◌++◌, Option, Some, None, Ok, Err, false}
use Rattle.command_desk.specs.Desks.{fresh_desk, on_sheet, Desk}
use Rattle.commands_file.specs.Calls.{failed, gets, loaded as loaded_as, Asked, HaveAnswered, Reply, ShelfView}
use Rattle.outside_world.specs.Clock.{TakesReading}
use Rattle.outside_world.specs.Shelf.{file_in, HasRead}
use Rattle.serial_date.specs.declared.moment.Moment.{Moment}
use Rattle.session_core.specs.Machine.{begun_with, Outcome}
use Rattle.session_core.specs.Step.{loaded}
use Rattle.sheet_gen.specs.Rows.{IsGenerated}
use Rattle.sheet_store.specs.declared.writes.SavedSheet.{SavedSheet}
use Rattle.work_sheet.specs.Doing.{Done, Happened}
use Rattle.work_sheet.specs.Editing.{restored}
use Rattle.work_sheet.specs.Seen.{fresh_sheet}
use Rattle.sheet_run.specs.Run.{Outside}
use Rattle.sheet_run.specs.declared.opening.NotRead.{NotRead}
use Rattle.sheet_run.specs.declared.opening.NotRead.TheVariants.{NoSuchFile, Faulty, DiskError}
use Rattle.sheet_run.specs.declared.options.Start.{Start}
use Rattle.sheet_run.specs.declared.options.Start.TheVariants as given

-- what a run begins with: a fresh sheet, a file of this name with the sheet that it is read as, or a sheet that is
-- generated, of so many rows
pub data StartSheet : Type 0 where
  fresh : StartSheet
  of_file : List ℕ → SavedSheet → StartSheet
  of_rows : ℕ → SavedSheet → StartSheet

-- it is what the words ask for
abbrev pub IsAskedFor : Start → StartSheet → Type 0
IsAskedFor given.Fresh fresh = ⊤
IsAskedFor (given.File name) (of_file other saved) = other ≡ name
IsAskedFor (given.Rows rows) (of_rows other saved) = (other ≡ rows) × IsGenerated rows saved
IsAskedFor asked is = ⊥

-- the sheet of a file, or a generated one, takes the place of a fresh one: all its formulas are dirty
abbrev pub taken_over : SavedSheet → Done
taken_over saved = restored saved.store saved.names saved.settings fresh_sheet

-- the desk that a run begins with
abbrev pub desk_from : StartSheet → Desk
desk_from fresh = fresh_desk
desk_from (of_file name saved) = on_sheet fresh_desk (taken_over saved).sheet
desk_from (of_rows rows saved) = on_sheet fresh_desk (taken_over saved).sheet

-- what happened in its sheet
abbrev pub log_from : StartSheet → List Happened
log_from fresh = []
log_from (of_file name saved) = (taken_over saved).log
log_from (of_rows rows saved) = (taken_over saved).log

-- the one call that asks for a file, with its answer
abbrev pub asked_for : List ℕ → Reply → List Asked
asked_for name reply = record { call = gets name; reply = reply } ∷ []

-- the calls of the shelf, with their answers: a start file is asked for once, and its sheet is the answer
abbrev pub calls_from : StartSheet → List Asked
calls_from (of_file name saved) = asked_for name (loaded_as (Some (Ok saved)))
calls_from _ = []

-- What a run begins with: the sheet is recalculated in both modes, at the first reading of the clock.
abbrev pub opening : StartSheet → Moment → Outcome
opening start first = record {
  state = (loaded first (begun_with (desk_from start))).state;
  log = log_from start ++ (loaded first (begun_with (desk_from start))).log;
  ends = false;
  calls = calls_from start;
}

-- what the shelf answered where the start file isn't read as a sheet
abbrev pub answer_of : NotRead → Reply
answer_of NoSuchFile = loaded_as None
answer_of (Faulty f) = loaded_as (Some (Err f))
answer_of DiskError = failed

-- Memory ran out before the sheet was there. The shelf was not asked, or it gave the bytes of the start file; no file
-- is changed.
abbrev pub BreaksOff : Start → ShelfView → ShelfView → Type 0
BreaksOff (given.File name) before now = (now ≡ before)
    ⊎ ((bytes : List ℕ) × HasRead (file_in name) name before.told now.told (Ok (Some bytes))
    × (now.faults ≡ before.faults))
BreaksOff _ before now = now ≡ before

-- the start file was asked for and read, if the words name one, and then the clock was read for the start
pub record HasOpened (asked : Start) (start : StartSheet) (first : Moment) (before now : Outside) : Type 0 where
  pub named : IsAskedFor asked start
  pub shelf : ShelfView
  pub answered : HaveAnswered (opening start first).calls before.shelf shelf
  pub readings : Option (List Moment)
  pub took : TakesReading before.readings readings first
  pub now_is : now ≡ record before { shelf = shelf; readings = readings }
