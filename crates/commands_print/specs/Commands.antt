-- The commands below Print, each over what the shelf answers its call.
use Rattle.std.specs.Prelude.{◌≡◌, ℕ, ⊤, List, Option, None, Some, Result, Ok, Err}
use Rattle.command_desk.specs.Answered.{line_at, span_at}
use Rattle.command_desk.specs.Desks.{Desk}
use Rattle.command_desk.specs.OnDesk.{given, left, refused}
use Rattle.commands_file.specs.Calls.{puts, Reply}
use Rattle.commands_file.specs.Commands.{by_call, named, saved_of, without_call, written_out, FileActed}
use Rattle.commands_print.specs.Kept.{file_kept, kept, number_kept, with_range, with_text}
use Rattle.commands_print.specs.declared.keeping.NumberSetting.TheVariants.{Left, Right, Top, Bottom, Length}
use Rattle.commands_print.specs.declared.keeping.TextSetting.TheVariants.{Header, Footer}
use Rattle.desk_errors.specs.declared.error.CommandError.{CommandError}
use Rattle.desk_errors.specs.declared.error.CommandError.TheVariants as error
use Rattle.formula_parts.specs.declared.look.Scene.{Scene}
use Rattle.grid_address.specs.Place.{Extent}
use Rattle.menu_tree.specs.declared.menu.PrintAction.{PrintAction}
use Rattle.menu_tree.specs.declared.menu.PrintAction.TheVariants as print
use Rattle.outside_world.specs.Shelf.{file_in, OnShelf}
use Rattle.outside_world.specs.declared.file_name.Ext.TheVariants as ext
use Rattle.print_report.specs.Pages.{printing, report}
use Rattle.print_report.specs.declared.settings.PrintFault.{PrintFault}
use Rattle.print_report.specs.declared.settings.PrintFault.TheVariants as fault

-- the report of a range of the sheet, or why there is none
abbrev pub report_of : Scene → Desk → Extent → Result (List ℕ) PrintFault
report_of scene d range = report (printing d.print.set (saved_of d.sheet) range scene.now.day)

-- the error of a report's fault
abbrev pub error_of : PrintFault → CommandError
error_of fault.PageTooSmall = error.PageTooSmall
error_of fault.TooLong = error.ReportTooLong
error_of fault.Memory = error.Memory

-- a report is written to the file that is kept for it; where none is, there is no name to write it under
abbrev pub written_to : Option (List ℕ) → List ℕ → Desk → Reply → FileActed
written_to None bytes d reply = without_call (refused (error.InvalidFileName 0) d)
written_to (Some name) bytes d reply = by_call (puts name bytes) reply (written_out d)

-- a report is written, or its fault refuses the command without a call
abbrev pub reported : Result (List ℕ) PrintFault → Desk → Reply → FileActed
reported (Ok bytes) d reply = written_to d.print.file bytes d reply
reported (Err f) d reply = without_call (refused (error_of f) d)

-- the range that is kept is printed; where none is, the command is refused
abbrev pub printed : Option Extent → Scene → Desk → Reply → FileActed
printed None scene d reply = without_call (refused error.PrintRangeMissing d)
printed (Some range) scene d reply = reported (report_of scene d range) d reply

-- what a command below Print does, over what the shelf answers its call
abbrev pub act : PrintAction → List (List ℕ) → Scene → Desk → Reply → FileActed
act print.File answers scene d reply = without_call (file_kept (named ext.Prn answers) d)
act print.Range answers scene d reply =
    without_call (given (span_at d.sheet.names answers 0) (λ span. kept (with_range span) d) d)
act print.Go answers scene d reply = printed d.print.range scene d reply
act print.Header answers scene d reply = without_call (kept (with_text Header (line_at answers 0)) d)
act print.Footer answers scene d reply = without_call (kept (with_text Footer (line_at answers 0)) d)
act print.PageLength answers scene d reply = without_call (number_kept Length answers d)
act print.MarginLeft answers scene d reply = without_call (number_kept Left answers d)
act print.MarginRight answers scene d reply = without_call (number_kept Right answers d)
act print.MarginTop answers scene d reply = without_call (number_kept Top answers d)
act print.MarginBottom answers scene d reply = without_call (number_kept Bottom answers d)
act _ answers scene d reply = without_call (left d)

-- The file that is kept for reports holds the report of the range, where the shelf tells its files.
abbrev pub HoldsReport : Scene → Desk → Option OnShelf → Type 0
HoldsReport scene d None = ⊤
HoldsReport scene d (Some s) =
    (name : List ℕ) × (range : Extent) × (bytes : List ℕ) × (d.print.file ≡ Some name) × (d.print.range ≡ Some range)
    × (report_of scene d range ≡ Ok bytes) × (file_in name s.files ≡ Some bytes)
