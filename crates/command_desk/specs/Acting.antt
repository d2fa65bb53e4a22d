-- What commands leave of the worksheet.
use Rattle.std.specs.Prelude.{◌≡◌, ℕ, List, [], ◌∷◌, Option, None, Some, Result, Ok, Err}
use Rattle.std.specs.List.{find}
use Rattle.desk_errors.specs.declared.error.CommandError.{CommandError}
use Rattle.desk_errors.specs.declared.error.CommandError.TheVariants as error
use Rattle.formula_eval.specs.Mean.{mean}
use Rattle.formula_parts.specs.declared.look.Scene.{Scene}
use Rattle.grid_address.specs.Place.{Place}
use Rattle.sheet_edits.specs.Edits.{is_protected}
use Rattle.sheet_shifts.specs.Refusals.{refusal}
use Rattle.sheet_shifts.specs.declared.shift.Shift.{Shift}
use Rattle.sheet_store.specs.declared.writes.SheetFault.{SheetFault}
use Rattle.sheet_store.specs.declared.writes.SheetFault.TheVariants as fault
use Rattle.work_sheet.specs.Did.{work_of, Did}
use Rattle.work_sheet.specs.Doing.{and_then, quiet, settled, Done, Happened}
use Rattle.work_sheet.specs.Editing.{shifted}
use Rattle.work_sheet.specs.Seen.{of_worksheet, Sheet}
use Rattle.work_sheet.specs.Sheets.{Worksheet}
use Rattle.work_sheet.specs.Work.{HasWorked}
use Rattle.command_desk.specs.Desks.{of_desk, on_sheet, Desk}
use Rattle.command_desk.specs.declared.desk.Desk as declared
use Rattle.command_desk.specs.declared.ending.CommandEnd.{CommandEnd}
use Rattle.command_desk.specs.declared.ending.CommandEnd.TheVariants.{Finished, Quits, Refused}

-- what a command came to, and what was done to the sheet
pub record Acted : Type 0 where
  pub end : CommandEnd
  pub done : Done

-- a refused command leaves the sheet
abbrev pub refused : CommandError → Sheet → Acted
refused e s = record { end = Refused e; done = quiet s }

-- a command that is carried out
abbrev pub finished : Done → Acted
finished d = record { end = Finished; done = d }

-- a command that ends the run
abbrev pub quits : Sheet → Acted
quits s = record { end = Quits; done = quiet s }

-- an edit of contents, after which all is recalculated in Automatic mode
abbrev pub edited : Scene → Done → Acted
edited scene d = finished (and_then d (settled mean scene))

-- a value that a command needs, or the error of its answer
abbrev pub given : {A : Type 0} → Result A CommandError → (A → Acted) → Sheet → Acted
given (Ok a) next s = next a
given (Err e) next s = refused e s

-- the first of some cells that is protected
abbrev pub first_protected : List Place → Sheet → Option Place
first_protected cells s = find (is_protected s.settings s.grid) cells

-- a protected cell refuses a command
abbrev pub unless_protected : Option Place → Acted → Sheet → Acted
unless_protected None a s = a
unless_protected (Some c) a s = refused (error.Protected c) s

-- some cells are written, where none of them is protected
abbrev pub written : List Place → Done → Scene → Sheet → Acted
written cells d scene s = unless_protected (first_protected cells s) (edited scene d) s

-- the error of an edit's fault
abbrev pub error_of : SheetFault → CommandError
error_of (fault.Protected cell) = error.Protected cell
error_of (fault.PushedOff cell) = error.PushedOff cell
error_of (fault.OutOfSheet span) = error.OutOfSheet span
error_of fault.Memory = error.Memory

-- what a refused edit of the sheet comes to; none is want of memory
abbrev pub refusal_of : SheetFault → Option CommandEnd
refusal_of (fault.Protected cell) = Some (Refused (error.Protected cell))
refusal_of (fault.PushedOff cell) = Some (Refused (error.PushedOff cell))
refusal_of (fault.OutOfSheet span) = Some (Refused (error.OutOfSheet span))
refusal_of fault.Memory = None

-- an edit's fault refuses a command
abbrev pub unless_refused : Option SheetFault → Acted → Sheet → Acted
unless_refused None a s = a
unless_refused (Some f) a s = refused (error_of f) s

-- cells are moved, where nothing refuses it
abbrev pub moved_by : Shift → Scene → Sheet → Acted
moved_by shift scene s = unless_refused (refusal s.settings s.grid.cells shift) (edited scene (shifted shift s)) s

-- A command that came to this end made of a worksheet another, and of a count of evaluations another.
pub record HasActed (a : Acted) (came : CommandEnd) (v w : Worksheet) (m n : ℕ) : Type 0 where
  pub end : came ≡ a.end
  pub did : Did a.done v w m n

-- it did so by an act over the worksheet
abbrev pub HasActedBy : (Sheet → Acted) → CommandEnd → Worksheet → Worksheet → ℕ → ℕ → Type 0
HasActedBy act end v w m n = HasActed (act (of_worksheet v)) end v w m n

-- A recalculation followed an edit of contents in Automatic mode, or the edit was refused.
abbrev pub HasSettled : Result (Unit {0}) SheetFault → Scene → CommandEnd → Worksheet → Worksheet → ℕ → ℕ → Type 0
HasSettled (Ok x) scene end v w m n = (end ≡ Finished) × Did (settled mean scene (of_worksheet v)) v w m n
HasSettled (Err f) scene end v w m n = (refusal_of f ≡ Some end) × (w ≡ v) × (n ≡ m)

-- what a command came to, the desk that it leaves, and what happened in its worksheet
pub record DeskActed : Type 0 where
  pub end : CommandEnd
  pub desk : Desk
  pub log : List Happened

-- a command that works on the worksheet alone
abbrev pub on_desk : (Sheet → Acted) → Desk → DeskActed
on_desk act d =
    record { end = (act d.sheet).end; desk = on_sheet d (act d.sheet).done.sheet; log = (act d.sheet).done.log }

-- A command that came to this end made of a desk another, and of a count of evaluations another.
pub record HasActedOn (a : DeskActed) (came : CommandEnd) (v w : declared.Desk) (m n : ℕ) : Type 0 where
  pub end : came ≡ a.end
  pub desk : of_desk w ≡ a.desk
  pub work : HasWorked a.log (work_of v.sheet m) (work_of w.sheet n)
  pub history : w.sheet.history ≡ v.sheet.history
