-- What the calls that make the first desk answer.
use Rattle.std.specs.Prelude.{◌≡◌, ℕ, List, Option, Some, Result, Ok, Err}
use Rattle.command_desk.specs.Desks.{fresh_desk, of_desk, on_sheet}
use Rattle.command_desk.specs.declared.desk.Desk.{Desk}
use Rattle.commands_file.specs.Calls.{gets, loaded, HasAnswered, HaveAnswered, ShelfView}
use Rattle.lics_text.specs.declared.faults.Memory.{Memory as NoMemory}
use Rattle.outside_world.specs.Clock.{TakesReading}
use Rattle.serial_date.specs.declared.moment.Moment.{Moment}
use Rattle.session_core.specs.Machine.{begun, begun_with, Follows, SessionView}
use Rattle.session_core.specs.Step.{loaded as loaded_at}
use Rattle.sheet_gen.specs.Rows.{IsGenerated}
use Rattle.sheet_store.specs.declared.writes.SavedSheet.{SavedSheet}
use Rattle.sheet_undo.specs.Histories.{no_history}
use Rattle.work_sheet.specs.Did.{work_of}
use Rattle.work_sheet.specs.Work.{no_work, HasWorked}
use Rattle.sheet_run.specs.Opening.{answer_of, asked_for, taken_over, BreaksOff}
use Rattle.sheet_run.specs.inner.Begun.{HasBegun}
use Rattle.wk1_file.specs.Files.{IsFile}
use Rattle.sheet_run.specs.declared.opening.NotBegun.{NotBegun}
use Rattle.sheet_run.specs.declared.opening.NotBegun.TheVariants.{NotRead, Memory}
use Rattle.sheet_run.specs.declared.opening.NotRead.TheVariants.{NoSuchFile, Faulty, DiskError}
use Rattle.sheet_run.specs.declared.options.Start.{Start}
use Rattle.sheet_run.specs.declared.options.Start.TheVariants as given

-- bytes are read as a sheet, or refused by their first fault, or memory ran out
abbrev pub HasReadSheet : List ℕ → Result SavedSheet NotBegun → Type 0
HasReadSheet bytes (Ok saved) = IsFile bytes (Ok saved)
HasReadSheet bytes (Err (NotRead NoSuchFile)) = ⊥
HasReadSheet bytes (Err (NotRead (Faulty f))) = IsFile bytes (Err f)
HasReadSheet bytes (Err (NotRead DiskError)) = ⊥
HasReadSheet bytes (Err Memory) = Unit {0}

-- a file was asked for and read as a sheet, or it wasn't, or memory ran out
abbrev pub HasReadFile : List ℕ → Result SavedSheet NotBegun → ShelfView → ShelfView → Type 0
HasReadFile name (Ok saved) before now =
    HasAnswered (record { call = gets name; reply = loaded (Some (Ok saved)) }) before now
HasReadFile name (Err (NotRead why)) before now =
    HasAnswered (record { call = gets name; reply = answer_of why }) before now
HasReadFile name (Err Memory) before now = BreaksOff (given.File name) before now

-- a fresh desk over a sheet that was saved or generated, whose formulas are all dirty
pub record IsDeskOf (saved : SavedSheet) (desk : Desk) : Type 0 where
  pub desk_is : of_desk desk ≡ on_sheet fresh_desk (taken_over saved).sheet
  pub worked : HasWorked (taken_over saved).log no_work (work_of desk.sheet 0)
  pub none_kept : desk.sheet.history ≡ no_history

-- a fresh desk over a generated sheet of so many rows
abbrev pub IsGeneratedDesk : ℕ → Desk → Type 0
IsGeneratedDesk rows desk = (saved : SavedSheet) × IsGenerated rows saved × IsDeskOf saved desk

-- a desk, or want of memory
abbrev pub or_memory : Result Desk NoMemory → Result Desk NotBegun
or_memory (Ok desk) = Ok desk
or_memory (Err m) = Err Memory

-- a desk was made to begin with, or the named file isn't read, or memory ran out
abbrev pub HasBegunOr : Start → Result Desk NotBegun → ShelfView → ShelfView → Type 0
HasBegunOr asked (Ok desk) before now = HasBegun asked desk before now
HasBegunOr asked (Err (NotRead why)) before now =
    (name : List ℕ) × (asked ≡ given.File name) × HaveAnswered (asked_for name (answer_of why)) before now
HasBegunOr asked (Err Memory) before now = BreaksOff asked before now

-- a session begins with a desk and is recalculated at this reading
pub record IsLoaded (desk : Desk) (first : Moment) (s : SessionView) : Type 0 where
  pub follows : Follows (loaded_at first (begun_with (of_desk desk))) (begun (of_desk desk) (work_of desk.sheet 0)) s

-- the clock was read, and a session recalculated at the reading, or memory ran out
abbrev pub HasLoaded : Desk → Option (List Moment) → Option (List Moment) → Result SessionView NoMemory → Type 0
HasLoaded desk before now (Ok s) = (first : Moment) × TakesReading before now first × IsLoaded desk first s
HasLoaded desk before now (Err m) = (first : Moment) × TakesReading before now first
