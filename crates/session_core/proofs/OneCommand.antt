-- A command comes to one thing, over the files that the shelf holds.
use Rattle.std.proofs.Common.{ℕ, Bool, true, false, List, Option, None, Some, Result, Ok, Err, refl}
use Rattle.std.specs.Prelude.{if◌then◌else◌}
use Rattle.command_desk.specs.Answered.{span_at}
use Rattle.command_desk.specs.Desks.{Desk}
use Rattle.command_desk.specs.Acting.{DeskActed}
use Rattle.command_desk.specs.OnDesk.{refused}
use Rattle.commands_file.specs.Calls.{asks, gets, puts, removes, Asked, Reply, ShelfCall}
use Rattle.commands_file.specs.Commands.{act_by, act_named, by_call, combined_with, extracted_to, kind_of, looked}
use Rattle.commands_file.specs.Commands.{looked_at, named, put_readable, retrieved, is_readable, saved_as, sheet_bytes}
use Rattle.commands_file.specs.Commands.{span_bytes, taken_away, without_call, written_out, FileActed, Looking}
use Rattle.commands_file.specs.declared.combining.Combining.TheVariants.{Copy, Add, Subtract}
use Rattle.commands_file.specs.declared.extracting.Extracting.{Extracting}
use Rattle.commands_file.specs.declared.extracting.Extracting.TheVariants.{Formulas, Values}
use Rattle.commands_print.specs.Commands.{printed, report_of, reported, written_to}
use Rattle.commands_print.specs.Commands as on_print
use Rattle.desk_errors.specs.declared.error.CommandError.{CommandError}
use Rattle.desk_errors.specs.declared.error.CommandError.TheVariants as error
use Rattle.formula_parts.specs.declared.look.Scene.{Scene}
use Rattle.grid_address.specs.Place.{Extent}
use Rattle.menu_tree.specs.declared.menu.Action.{Action}
use Rattle.menu_tree.specs.declared.menu.Action.TheVariants as action
use Rattle.menu_tree.specs.declared.menu.FileAction.{FileAction}
use Rattle.menu_tree.specs.declared.menu.FileAction.TheVariants as file
use Rattle.menu_tree.specs.declared.menu.PrintAction.{PrintAction}
use Rattle.menu_tree.specs.declared.menu.PrintAction.TheVariants as print
use Rattle.outside_world.specs.declared.file_name.Ext.TheVariants as ext
use Rattle.print_report.specs.declared.settings.PrintFault.{PrintFault}
use Rattle.session_core.specs.Act.{act}
use Rattle.session_core.proofs.OneResult.{by_one_call, constant, IsOne}

-- the calls of a command
abbrev pub file_calls : FileActed → List Asked
file_calls x = x.calls

-- the calls of a look at the shelf
abbrev pub look_calls : Looking → List Asked
look_calls x = x.calls

-- a command that makes one call
called : (call : ShelfCall) (does : Reply → DeskActed) → IsOne file_calls (λ (r : Reply). by_call call r does)
called call does = by_one_call file_calls (λ r. by_call call r does) call (λ r. refl)

-- a command that makes none
uncalled : (x : DeskActed) → IsOne file_calls (λ (r : Reply). without_call x)
uncalled x = constant file_calls (without_call x)

put_if : (fits : Bool) (name bytes : List ℕ) (does : Reply → DeskActed) (x : DeskActed) →
    IsOne file_calls (λ (r : Reply). if fits then by_call (puts name bytes) r does else without_call x)
put_if true name bytes does x = called (puts name bytes) does
put_if false name bytes does x = uncalled x

-- a worksheet's file is put, unless it would not be read again
put_one : (name bytes : List ℕ) (does : Reply → DeskActed) (d : Desk) →
    IsOne file_calls (λ (r : Reply). put_readable name bytes r does d)
put_one name bytes does d = put_if (is_readable bytes) name bytes does (refused error.WorksheetTooLarge d)

extracted_one : (k : Extracting) (name : List ℕ) (span : Result Extent CommandError) (d : Desk) →
    IsOne file_calls (λ (r : Reply). extracted_to k name span d r)
extracted_one k name (Ok span) d = put_one name (span_bytes k span d.sheet) (written_out d) d
extracted_one k name (Err e) d = uncalled (refused e d)

named_one : (a : FileAction) (answers : List (List ℕ)) (name : List ℕ) (scene : Scene) (d : Desk) →
    IsOne file_calls (λ (r : Reply). act_named a answers name scene d r)
named_one file.Retrieve answers name scene d = called (gets name) (retrieved scene d)
named_one file.Save answers name scene d = put_one name (sheet_bytes d.sheet) (saved_as name d) d
named_one file.Erase answers name scene d = called (removes name) (taken_away d)
named_one file.CombineCopy answers name scene d = called (gets name) (combined_with Copy scene d)
named_one file.CombineAdd answers name scene d = called (gets name) (combined_with Add scene d)
named_one file.CombineSubtract answers name scene d = called (gets name) (combined_with Subtract scene d)
named_one file.XtractFormulas answers name scene d = extracted_one Formulas name (span_at d.sheet.names answers 1) d
named_one file.XtractValues answers name scene d = extracted_one Values name (span_at d.sheet.names answers 1) d

by_name_one : (name : Option (List ℕ)) (a : FileAction) (answers : List (List ℕ)) (scene : Scene) (d : Desk) →
    IsOne file_calls (λ (r : Reply). act_by name a answers scene d r)
by_name_one None a answers scene d = uncalled (refused (error.InvalidFileName 0) d)
by_name_one (Some name) a answers scene d = named_one a answers name scene d

-- a report is written, where there is one and a file for it
written_one : (name : Option (List ℕ)) (bytes : List ℕ) (d : Desk) →
    IsOne file_calls (λ (r : Reply). written_to name bytes d r)
written_one None bytes d = uncalled (refused (error.InvalidFileName 0) d)
written_one (Some name) bytes d = called (puts name bytes) (written_out d)

reported_one : (made : Result (List ℕ) PrintFault) (d : Desk) → IsOne file_calls (λ (r : Reply). reported made d r)
reported_one (Ok bytes) d = written_one d.print.file bytes d
reported_one (Err f) d = λ r q a b c e alike w w'. refl

printed_one : (range : Option Extent) (scene : Scene) (d : Desk) →
    IsOne file_calls (λ (r : Reply). printed range scene d r)
printed_one None scene d = uncalled (refused error.PrintRangeMissing d)
printed_one (Some range) scene d = reported_one (report_of scene d range) d

print_one : (p : PrintAction) (answers : List (List ℕ)) (scene : Scene) (d : Desk) →
    IsOne file_calls (λ (r : Reply). on_print.act p answers scene d r)
print_one print.File answers scene d = λ r q a b c e alike w w'. refl
print_one print.Range answers scene d = λ r q a b c e alike w w'. refl
print_one print.Go answers scene d = printed_one d.print.range scene d
print_one print.Header answers scene d = λ r q a b c e alike w w'. refl
print_one print.Footer answers scene d = λ r q a b c e alike w w'. refl
print_one print.PageLength answers scene d = λ r q a b c e alike w w'. refl
print_one print.LeaveOptions answers scene d = λ r q a b c e alike w w'. refl
print_one print.MarginLeft answers scene d = λ r q a b c e alike w w'. refl
print_one print.MarginRight answers scene d = λ r q a b c e alike w w'. refl
print_one print.MarginTop answers scene d = λ r q a b c e alike w w'. refl
print_one print.MarginBottom answers scene d = λ r q a b c e alike w w'. refl
print_one print.LeaveMargins answers scene d = λ r q a b c e alike w w'. refl

-- a command
pub act_one : (a : Action) (answers : List (List ℕ)) (scene : Scene) (d : Desk) →
    IsOne file_calls (λ (r : Reply). act a answers scene d r)
act_one (action.Common k) answers scene d = λ r q a b c e alike w w'. refl
act_one (action.Worksheet k) answers scene d = λ r q a b c e alike w w'. refl
act_one (action.Range k) answers scene d = λ r q a b c e alike w w'. refl
act_one (action.File k) answers scene d = by_name_one (named ext.Wk1 answers) k answers scene d
act_one (action.Print k) answers scene d = print_one k answers scene d
act_one (action.Data k) answers scene d = λ r q a b c e alike w w'. refl

looked_one : (name : Option (List ℕ)) → IsOne look_calls (looked_at name)
looked_one None = λ r q a b c d alike w w'. refl
looked_one (Some name) = by_one_call look_calls (looked_at (Some name)) (asks name) (λ r. refl)

-- a look for the file that a command may replace
pub look_one : (a : Action) (answers : List (List ℕ)) → IsOne look_calls (looked a answers)
look_one a answers = looked_one (named (kind_of a) answers)
