-- The desk that a run begins with.
use Rattle.std.proofs.Common.{◌≡◌, ℕ, List, [], Option, None, Result, Ok, Err, refl, sym, ap, ◌∙◌, subst, inr}
use Rattle.std.specs.Prelude.{IfOk}
use Rattle.command_desk.specs.Desks.{fresh_desk, of_desk, on_sheet, Desk as DeskSeen}
use Rattle.command_desk.specs.declared.desk.Desk.{Desk}
use Rattle.commands_file.specs.Calls.{ShelfView}
use Rattle.grid_address.specs.Place.{Place}
use Rattle.serial_date.specs.declared.moment.Moment.{Moment}
use Rattle.session_core.specs.Machine.{begun as fresh_running, Follows, SessionView}
use Rattle.session_core.specs.Step.{loaded}
use Rattle.sheet_store.specs.declared.writes.SavedSheet.{SavedSheet}
use Rattle.sheet_undo.specs.Histories.{no_history}
use Rattle.work_sheet.specs.Did.{work_of, DidEdit}
use Rattle.work_sheet.specs.Editing.{restored}
use Rattle.work_sheet.specs.Seen.{of_worksheet}
use Rattle.work_sheet.specs.Sheets.{Worksheet}
use Rattle.work_sheet.specs.Work.{no_work, HasWorked, Work}
use Rattle.sheet_gen.specs.Rows.{IsGenerated}
use Rattle.lics_text.specs.declared.faults.Memory.{Memory as NoMemory}
use Rattle.sheet_run.specs.inner.Beginning.{or_memory, HasBegunOr, HasReadFile, IsDeskOf, IsGeneratedDesk}
use Rattle.sheet_run.specs.inner.Beginning.{IsLoaded}
use Rattle.sheet_run.specs.Opening.{fresh, of_file, of_rows, taken_over}
use Rattle.sheet_run.specs.inner.Begun.{HasBegun}
use Rattle.sheet_run.specs.declared.options.Start.{Start}
use Rattle.sheet_run.specs.declared.options.Start.TheVariants as given
use Rattle.sheet_run.specs.declared.opening.NotBegun.{NotBegun}
use Rattle.sheet_run.specs.declared.opening.NotBegun.TheVariants.{NotRead, Memory}

-- a file that isn't read
pub not_read : (asked : Start) (name : List ℕ) (why : NotBegun) (before now : ShelfView) → asked ≡ given.File name
    → HasReadFile name (Err why) before now → HasBegunOr asked (Err why) before now
not_read asked name (NotRead why) before now is read = (name, is, (now, read, refl))
not_read asked name Memory before now is broke =
    subst (λ (f : Start). HasBegunOr f (Err Memory) before now) (sym is) broke

-- a desk over the sheet of a file
pub begun : (asked : Start) (name : List ℕ) (saved : SavedSheet) (desk : Desk) (before now : ShelfView)
    → asked ≡ given.File name → HasReadFile name (Ok saved) before now → IsDeskOf saved desk
    → HasBegun asked desk before now
begun asked name saved desk before now is read made = rw is (record {
  start = of_file name saved;
  named = refl;
  answered = (now, read, refl);
  desk_is = made.desk_is;
  worked = made.worked;
  none_kept = made.none_kept;
})

-- a desk over a generated sheet, for which the shelf was not asked
pub generated_begun : (asked : Start) (rows : ℕ) (desk : Desk) (shelf : ShelfView) → asked ≡ given.Rows rows
    → IsGeneratedDesk rows desk → HasBegun asked desk shelf shelf
generated_begun asked rows desk shelf is (saved, generated, made) = rw is (record {
  start = of_rows rows saved;
  named = (refl, generated);
  answered = refl;
  desk_is = made.desk_is;
  worked = made.worked;
  none_kept = made.none_kept;
})

-- a fresh desk
pub fresh_begun : (asked : Start) (desk : Desk) (shelf : ShelfView) → asked ≡ given.Fresh → of_desk desk ≡ fresh_desk
    → desk.sheet.dirty ≡ [] → desk.sheet.history ≡ no_history → HasBegun asked desk shelf shelf
fresh_begun asked desk shelf is made clean none = rw is (record {
  start = fresh;
  named = tt;
  answered = refl;
  desk_is = made;
  worked = ap (λ (ps : List Place). record { dirty = ps; count = 0 }) clean;
  none_kept = none;
})

-- the desk over a sheet that was generated with so many rows is the generated one
pub generated_desk : (rows : ℕ) (saved : SavedSheet) (made : Result Desk NoMemory) (n : ℕ) → n ≡ rows
    → IsGenerated n saved → IfOk made (IsDeskOf saved) → IfOk made (IsGeneratedDesk rows)
generated_desk rows saved (Ok desk) n is generated made =
    (saved, subst (λ (m : ℕ). IsGenerated m saved) is generated, made)
generated_desk rows saved (Err m) n is generated made = tt

-- a desk, or want of memory before one was there
pub fresh_or : (asked : Start) (made : Result Desk NoMemory) (shelf : ShelfView) → asked ≡ given.Fresh
    → IfOk made (λ d. of_desk d ≡ fresh_desk) → IfOk made (λ d. d.sheet.dirty ≡ [])
    → IfOk made (λ d. d.sheet.history ≡ no_history) → HasBegunOr asked (or_memory made) shelf shelf
fresh_or asked (Ok desk) shelf is made clean none = fresh_begun asked desk shelf is made clean none
fresh_or asked (Err m) shelf is made clean none = rw is refl

-- over the sheet that a file gave, a desk begins, or memory ran out
pub file_or : (asked : Start) (name : List ℕ) (saved : SavedSheet) (made : Result Desk NoMemory)
    (before now : ShelfView) → asked ≡ given.File name → HasReadFile name (Ok saved) before now
    → IfOk made (IsDeskOf saved) → HasBegunOr asked (or_memory made) before now
file_or asked name saved (Ok desk) before now is read made = begun asked name saved desk before now is read made
file_or asked name saved (Err m) before now is read made = rw is (inr (read.told.0, read.told.2, read.faults))

-- over a generated sheet a desk begins, or memory ran out
pub rows_or : (asked : Start) (rows : ℕ) (made : Result Desk NoMemory) (shelf : ShelfView) → asked ≡ given.Rows rows
    → IfOk made (IsGeneratedDesk rows) → HasBegunOr asked (or_memory made) shelf shelf
rows_or asked rows (Ok desk) shelf is made = generated_begun asked rows desk shelf is made
rows_or asked rows (Err m) shelf is made = rw is refl

-- the sheet of a file on a fresh desk
pub desk_made : (saved : SavedSheet) (made : Desk) (s : Worksheet) → of_desk made ≡ fresh_desk → made.sheet.dirty ≡ []
    → made.sheet.history ≡ no_history → DidEdit (restored saved.store saved.names saved.settings) made.sheet s
    → IsDeskOf saved (record made { sheet = s })
desk_made saved made s is clean none edit =
    let no_dirty : work_of made.sheet 0 ≡ no_work = ap (λ (ps : List Place). record { dirty = ps; count = 0 }) clean in
    record {
      desk_is = ap (λ (d : DeskSeen). on_sheet d (of_worksheet s)) is ∙ ap (on_sheet fresh_desk) (edit 0).sheet;
      worked = subst (λ (w : Work). HasWorked (taken_over saved).log w (work_of s 0)) no_dirty (edit 0).work;
      none_kept = (edit 0).history ∙ none;
    }

-- a session is loaded
pub loaded_is : (desk : Desk) (first : Moment) (s t : SessionView)
    → s ≡ fresh_running (of_desk desk) (work_of desk.sheet 0) → Follows (loaded first s.state) s t
    → IsLoaded desk first t
loaded_is desk first s t is follows =
    record { follows = subst (λ (r : SessionView). Follows (loaded first r.state) r t) is follows }
