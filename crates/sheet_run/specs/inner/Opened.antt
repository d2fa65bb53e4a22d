-- How a run was opened.
use Rattle.std.specs.Prelude.{◌≡◌, ℕ, false, List, Result, Ok, Err}
use Rattle.commands_file.specs.Calls.{HaveAnswered, ShelfView}
use Rattle.serial_date.specs.declared.moment.Moment.{Moment}
use Rattle.session_core.specs.Machine.{SessionView}
use Rattle.work_sheet.specs.Work.{no_work, HasWorked}
use Rattle.sheet_run.specs.Opening.{answer_of, asked_for, opening, BreaksOff, HasOpened, StartSheet}
use Rattle.sheet_run.specs.Run.{Outside}
use Rattle.sheet_run.specs.Status.{asked, shelved}
use Rattle.sheet_run.specs.declared.opening.NotBegun.{NotBegun}
use Rattle.sheet_run.specs.declared.opening.NotBegun.TheVariants.{NotRead, Memory}
use Rattle.sheet_run.specs.declared.opening.NotRead.{NotRead as NotReadWhy}
use Rattle.sheet_run.specs.declared.options.Options.{Options}
use Rattle.sheet_run.specs.declared.options.Start.TheVariants as given

-- a session has become what a run begins with
pub record IsOpened (start : StartSheet) (first : Moment) (s : SessionView) : Type 0 where
  pub state : s.state ≡ (opening start first).state
  pub work : HasWorked (opening start first).log no_work s.work

-- a run was opened, and this session is what it begins with
pub record IsOpen (o : Options) (s : SessionView) (before now : Outside) : Type 0 where
  pub start : StartSheet
  pub first : Moment
  pub opened : HasOpened o.start start first (asked o before) now
  pub begins : IsOpened start first s
  pub fresh : s.spent ≡ false

-- the start file was asked for and is no sheet, and no reading was taken
pub record IsUnread (o : Options) (why : NotReadWhy) (before now : Outside) : Type 0 where
  pub name : List ℕ
  pub named : o.start ≡ given.File name
  pub shelf : ShelfView
  pub answered : HaveAnswered (asked_for name (answer_of why)) before.shelf shelf
  pub now_is : now ≡ shelved o shelf before

-- memory ran out before room was there for each display, before the sheet was there, or while it was recalculated
pub data IsUnopened (o : Options) (before now : Outside) : Type 0 where
  without_room : now ≡ before → IsUnopened o before now
  without_sheet : (shelf : ShelfView) → BreaksOff o.start before.shelf shelf → now ≡ shelved o shelf before →
      IsUnopened o before now
  without_session : (start : StartSheet) (first : Moment) → HasOpened o.start start first (asked o before) now →
      IsUnopened o before now

-- a run was opened, or the start file isn't read, or memory ran out
abbrev pub HasOpenedOr : Options → Result SessionView NotBegun → Outside → Outside → Type 0
HasOpenedOr o (Ok s) before now = IsOpen o s before now
HasOpenedOr o (Err (NotRead why)) before now = IsUnread o why before now
HasOpenedOr o (Err Memory) before now = IsUnopened o before now
