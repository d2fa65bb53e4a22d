-- The commands below File, each over what the shelf answers its call.
use Rattle.std.specs.Prelude.{◌≡◌, ℕ, nat_le, Bool, true, false, List, [], ◌∷◌, length, Option, None, Some, Result, Ok, Err, if◌then◌else◌}
use Rattle.command_desk.specs.Acting.{on_desk, DeskActed, HasActedOn}
use Rattle.command_desk.specs.Answered.{line_at, span_at}
use Rattle.command_desk.specs.Desks.{Desk}
pub use Rattle.command_desk.specs.OnDesk.{finished, left, refused}
use Rattle.command_desk.specs.declared.desk.Desk as declared
use Rattle.command_desk.specs.declared.ending.CommandEnd.{CommandEnd}
use Rattle.commands_file.specs.Calls.{asks, gets, loaded, puts, removes, there, written, Asked, HasBrokenOver}
use Rattle.commands_file.specs.Calls.{HaveAnswered, Reply, ShelfCall, ShelfView}
use Rattle.commands_file.specs.Combined.{combined}
use Rattle.commands_file.specs.Extracted.{extracted}
use Rattle.commands_file.specs.declared.combining.Combining.{Combining}
use Rattle.commands_file.specs.declared.combining.Combining.TheVariants.{Copy, Add, Subtract}
use Rattle.commands_file.specs.declared.extracting.Extracting.{Extracting}
use Rattle.commands_file.specs.declared.extracting.Extracting.TheVariants.{Formulas, Values}
use Rattle.commands_file.specs.declared.looking.Looked.{Looked}
use Rattle.commands_file.specs.declared.looking.Looked.TheVariants.{There, Unknown}
use Rattle.desk_errors.specs.declared.error.CommandError.{CommandError}
use Rattle.desk_errors.specs.declared.error.CommandError.TheVariants as error
use Rattle.formula_eval.specs.Mean.{mean}
use Rattle.formula_parts.specs.declared.look.Scene.{Scene}
use Rattle.grid_address.specs.Place.{Extent}
use Rattle.menu_tree.specs.declared.menu.Action.{Action}
use Rattle.menu_tree.specs.declared.menu.Action.TheVariants as action
use Rattle.menu_tree.specs.declared.menu.FileAction.{FileAction}
use Rattle.menu_tree.specs.declared.menu.FileAction.TheVariants as file
use Rattle.outside_world.specs.FileNames.{file_name}
use Rattle.outside_world.specs.declared.file_name.Ext.{Ext}
use Rattle.outside_world.specs.declared.file_name.Ext.TheVariants as ext
use Rattle.sheet_store.specs.declared.writes.SavedSheet.{SavedSheet}
use Rattle.wk1_file.specs.Files.{MOST_BYTES}
use Rattle.wk1_file.specs.Saved.{file_bytes}
use Rattle.wk1_records.specs.declared.fault.Wk1Fault.{Wk1Fault}
use Rattle.wk1_records.specs.declared.fault.Wk1Fault.TheVariants as fault
use Rattle.work_sheet.specs.Doing.{and_then, recalculated, Done}
use Rattle.work_sheet.specs.Editing.{restored}
use Rattle.work_sheet.specs.Seen.{Sheet}

-- what a command came to, and the calls that it made, with their answers
pub record FileActed : Type 0 where
  pub acted : DeskActed
  pub calls : List Asked

-- the number of a file's fault
abbrev pub fault_number : Wk1Fault → ℕ
fault_number fault.NoBof = 1
fault_number (fault.Truncated at) = 2
fault_number (fault.BadLength number) = 3
fault_number (fault.CellOutside number) = 4
fault_number (fault.BadText number) = 5
fault_number (fault.NumberTooLarge number) = 6
fault_number (fault.BadCode number at) = 7
fault_number (fault.FunctionOutside number code) = 8
fault_number (fault.BadName number) = 9
fault_number (fault.BadSpan number) = 10
fault_number fault.FileTooLarge = 11
fault_number (fault.TooDeep number) = 12
fault_number fault.Memory = 0

-- a call was made, and its answer taken
abbrev pub by_call : ShelfCall → Reply → (Reply → DeskActed) → FileActed
by_call call reply act = record { acted = act reply; calls = record { call = call; reply = reply } ∷ [] }

-- a command without a call
abbrev pub without_call : DeskActed → FileActed
without_call acted = record { acted = acted; calls = [] }

-- whether a worksheet's file isn't longer than one that is read
abbrev pub is_readable : List ℕ → Bool
is_readable bytes = nat_le (length bytes) MOST_BYTES

-- a worksheet's file is put, and the answer taken; one that would not be read again is refused without a call
abbrev pub put_readable : List ℕ → List ℕ → Reply → (Reply → DeskActed) → Desk → FileActed
put_readable name bytes reply act d =
    if is_readable bytes then by_call (puts name bytes) reply act else without_call (refused error.WorksheetTooLarge d)

-- what a file holds of a sheet
abbrev pub saved_of : Sheet → SavedSheet
saved_of s = record { store = s.grid; names = s.names; settings = s.settings }

-- the bytes of a sheet's file
abbrev pub sheet_bytes : Sheet → List ℕ
sheet_bytes s = file_bytes (saved_of s)

-- the bytes of the file that is saved of a span
abbrev pub span_bytes : Extracting → Extent → Sheet → List ℕ
span_bytes k span s = file_bytes (extracted k span s)

-- the pointer of a sheet, at this moment
abbrev pub scene_in : Scene → Sheet → Scene
scene_in scene s = record scene { cursor = s.settings.pointer }

-- all is recalculated, seen from where the pointer then stands
abbrev pub recalculated_there : Scene → Sheet → Done
recalculated_there scene s = recalculated mean (scene_in scene s) s

-- a file's sheet takes the place of the sheet, and is recalculated in both modes
abbrev pub retrieved_sheet : SavedSheet → Scene → Sheet → Done
retrieved_sheet saved scene s = and_then (restored saved.store saved.names saved.settings s) (recalculated_there scene)

-- the file that was read is refused, or something is made of its sheet
abbrev pub with_file : (SavedSheet → DeskActed) → Desk → Reply → DeskActed
with_file act d (loaded (Some (Ok saved))) = act saved
with_file act d (loaded (Some (Err f))) = refused (error.FileRefused (fault_number f)) d
with_file act d (loaded None) = refused error.FileNotFound d
with_file act d r = refused error.DiskError d

-- a file's sheet is retrieved
abbrev pub retrieved : Scene → Desk → Reply → DeskActed
retrieved scene d = with_file (λ saved. finished (retrieved_sheet saved scene d.sheet) d) d

-- the sheet was saved under a name, which the next save offers
abbrev pub saved_as : List ℕ → Desk → Reply → DeskActed
saved_as name d written = left (record d { file_name = Some name })
saved_as name d r = refused error.DiskError d

-- a file was written
abbrev pub written_out : Desk → Reply → DeskActed
written_out d written = left d
written_out d r = refused error.DiskError d

-- a file was taken away
abbrev pub taken_away : Desk → Reply → DeskActed
taken_away d (there true) = left d
taken_away d (there false) = refused error.FileNotFound d
taken_away d r = refused error.DiskError d

-- a file's cells are combined with those of the sheet
abbrev pub combined_with : Combining → Scene → Desk → Reply → DeskActed
combined_with k scene d = with_file (λ saved. on_desk (combined k saved.store scene) d) d

-- what is saved of a span is written, or the answer that is none refuses the command without a call
abbrev pub extracted_to : Extracting → List ℕ → Result Extent CommandError → Desk → Reply → FileActed
extracted_to k name (Ok span) d reply =
    put_readable name (span_bytes k span d.sheet) reply (written_out d) d
extracted_to k name (Err e) d reply = without_call (refused e d)

-- what a command below File does, whose first answer is this file's name
abbrev pub act_named : FileAction → List (List ℕ) → List ℕ → Scene → Desk → Reply → FileActed
act_named file.Retrieve answers name scene d reply = by_call (gets name) reply (retrieved scene d)
act_named file.Save answers name scene d reply =
    put_readable name (sheet_bytes d.sheet) reply (saved_as name d) d
act_named file.Erase answers name scene d reply = by_call (removes name) reply (taken_away d)
act_named file.CombineCopy answers name scene d reply = by_call (gets name) reply (combined_with Copy scene d)
act_named file.CombineAdd answers name scene d reply = by_call (gets name) reply (combined_with Add scene d)
act_named file.CombineSubtract answers name scene d reply = by_call (gets name) reply (combined_with Subtract scene d)
act_named file.XtractFormulas answers name scene d reply =
    extracted_to Formulas name (span_at d.sheet.names answers 1) d reply
act_named file.XtractValues answers name scene d reply =
    extracted_to Values name (span_at d.sheet.names answers 1) d reply

-- the name of the file that the first answer is, with the extension of its kind
abbrev pub named : Ext → List (List ℕ) → Option (List ℕ)
named kind answers = file_name kind (line_at answers 0)

-- an answer that is no file's name refuses a command, without a call
abbrev pub act_by : Option (List ℕ) → FileAction → List (List ℕ) → Scene → Desk → Reply → FileActed
act_by None a answers scene d reply = without_call (refused (error.InvalidFileName 0) d)
act_by (Some name) a answers scene d reply = act_named a answers name scene d reply

-- what a command below File does, over what the shelf answers its call
abbrev pub act : FileAction → List (List ℕ) → Scene → Desk → Reply → FileActed
act a answers scene d reply = act_by (named ext.Wk1 answers) a answers scene d reply

-- A command that came to this end made of a desk another, of a count of evaluations another, and of a shelf another: it
-- did what it does over some answer of the shelf, which what the shelf holds gives.
pub record HasActedOver (act : Reply → FileActed) (came : CommandEnd) (v w : declared.Desk) (m n : ℕ)
    (before now : ShelfView) : Type 0 where
  pub reply : Reply
  pub acted : HasActedOn (act reply).acted came v w m n
  pub answered : HaveAnswered (act reply).calls before now

-- memory ran out in a command, which made of a shelf another
abbrev pub HasBrokenIn : (Reply → FileActed) → ShelfView → ShelfView → Type 0
HasBrokenIn act before now = HasBrokenOver (λ reply. (act reply).calls) before now

-- what a look at the shelf comes to, and the calls that it made, with their answers
pub record Looking : Type 0 where
  pub came : Looked
  pub calls : List Asked

-- whether the file is there, or why that can't be told
abbrev pub looked_by : Reply → Looked
looked_by (there b) = There b
looked_by r = Unknown error.DiskError

-- whether the file that the first answer names is there
abbrev pub looked_at : Option (List ℕ) → Reply → Looking
looked_at None reply = record { came = Unknown (error.InvalidFileName 0); calls = [] }
looked_at (Some name) reply = record { came = looked_by reply; calls = record { call = asks name; reply = reply } ∷ [] }

-- the kind of the file that a command names: Print writes reports, and all others name worksheets
abbrev pub kind_of : Action → Ext
kind_of (action.Print a) = ext.Prn
kind_of a = ext.Wk1

-- whether the file that a command may replace is there
abbrev pub looked : Action → List (List ℕ) → Reply → Looking
looked a answers reply = looked_at (named (kind_of a) answers) reply

-- A look at the shelf came to this, and made of the shelf another.
pub record HasLooked (look : Reply → Looking) (came : Looked) (before now : ShelfView) : Type 0 where
  pub reply : Reply
  pub end : came ≡ (look reply).came
  pub answered : HaveAnswered (look reply).calls before now
