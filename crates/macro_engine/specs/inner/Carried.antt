-- How the code goes on behind an edit: with the first protected cell, or without one.
use Rattle.std.specs.Prelude.{◌≡◌, ℕ, Option, None, Some, Result, Ok, Err}
use Rattle.formula_eval.specs.Mean.{mean}
use Rattle.formula_parts.specs.declared.look.Scene.{Scene}
use Rattle.grid_address.specs.Place.{Place}
use Rattle.macro_words.specs.declared.running.Change.{Change}
use Rattle.sheet_store.specs.declared.writes.SheetFault.{SheetFault}
use Rattle.sheet_store.specs.declared.writes.SheetFault.TheVariants as fault
use Rattle.work_sheet.specs.Did.{Did}
use Rattle.work_sheet.specs.Doing.{quiet, settled, Done}
use Rattle.work_sheet.specs.Seen.{of_worksheet, Sheet}
use Rattle.work_sheet.specs.Sheets.{Worksheet}
use Rattle.macro_engine.specs.Changes.{changed, changed_cells, refused_cell}

-- the sheet is changed, or it stays for a protected cell
abbrev pub changed_unless : Option Place → Scene → Change → Sheet → Done
changed_unless None scene change s = changed scene change s
changed_unless (Some c) scene change s = quiet s

-- A change was carried out, or the first protected one of its cells was met.
pub record HasCarried (change : Change) (scene : Scene) (cell : Option Place) (v w : Worksheet) (m n : ℕ) : Type 0 where
  pub first : cell ≡ refused_cell (of_worksheet v) (changed_cells change)
  pub did : Did (changed_unless cell scene change (of_worksheet v)) v w m n

-- an edit was refused for a protected cell
abbrev pub WasRefused : SheetFault → Option Place → Type 0
WasRefused (fault.Protected c) cell = cell ≡ Some c
WasRefused _ cell = ⊥

-- A recalculation followed an edit in Automatic mode, or the edit met a protected cell.
abbrev pub HasSettled : Result (Unit {0}) SheetFault → Scene → Option Place → Worksheet → Worksheet → ℕ → ℕ → Type 0
HasSettled (Ok x) scene cell v w m n = (cell ≡ None) × Did (settled mean scene (of_worksheet v)) v w m n
HasSettled (Err f) scene cell v w m n = WasRefused f cell × (w ≡ v) × (n ≡ m)
