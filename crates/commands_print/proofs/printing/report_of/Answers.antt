use Rattle.std.proofs.Common.{◌≡◌, subst}
use Rattle.commands_file.specs.Commands.{saved_of}
use Rattle.print_report.specs.Jobs.{sheet_of}
use Rattle.print_report.specs.Pages.{printing, report, Gives}
use Rattle.sheet_store.specs.declared.writes.SavedSheet.{SavedSheet}
use Rattle.work_sheet.specs.Seen.{of_worksheet}
use Rattle.commands_print.proofs.printing.report_of.Goals as goal

pub returns : goal.returns
returns c =
    let v = c.args.desk.now in
    let is : sheet_of (record { store = c.cells.result; names = c.names.result; settings = c.settings.result })
    ≡ saved_of (of_worksheet v.sheet) =
    λ i. record { store = c.cells.ensures i; names = c.names.ensures i; settings = c.settings.ensures i } in
    subst (λ (s : SavedSheet). Gives c.report.result
    (report (printing v.print.set s c.args.range c.args.scene.now.now.day))) is c.report.ensures
