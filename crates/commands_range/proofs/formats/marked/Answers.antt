use Rattle.std.specs.Prelude.{refl, Result}
use Rattle.std.proofs.Common.{ap, subst, sym, ◌∙◌}
use Rattle.command_desk.specs.Acting.{finished, given, HasActed}
use Rattle.command_desk.specs.Answered.{span_at}
use Rattle.command_desk.specs.declared.ending.CommandEnd.TheVariants.{Finished}
use Rattle.desk_errors.specs.declared.error.CommandError.{CommandError}
use Rattle.grid_address.specs.Place.{Extent}
use Rattle.sheet_edits.specs.Spans.{with_mark}
use Rattle.work_sheet.specs.Editing.{reformatted}
use Rattle.work_sheet.specs.Seen.{of_worksheet, Sheet}
use Rattle.commands_range.proofs.formats.marked.Goals as goal

pub returns-in_ok-set_protected-in-Ok : goal.returns-in_ok-set_protected-in-Ok
returns-in_ok-set_protected-in-Ok c = λ n.
    let s : Sheet = of_worksheet c.args.sheet.now in
    let names = ap (λ m. span_at m c.args.answers.now 0) c.names.ensures in
    subst (λ (r : Result Extent CommandError). HasActed
    (given r (λ span. finished (reformatted span (with_mark c.args.protected) s)) s)
    Finished c.args.sheet.now c.set_protected.new.self n n)
    (sym c.in-Ok.is ∙ c.span_at.ensures ∙ names)
    (record { end = refl; did = c.in_ok-set_protected-in-Ok.ensures.did n })
