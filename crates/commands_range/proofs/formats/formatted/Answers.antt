use Rattle.std.specs.Prelude.{ℕ, refl, Result}
use Rattle.std.proofs.Common.{ap, subst, sym, ◌∙◌}
use Rattle.command_desk.specs.Acting.{finished, given, HasActed}
use Rattle.command_desk.specs.Answered.{span_at}
use Rattle.command_desk.specs.declared.ending.CommandEnd.TheVariants.{Finished}
use Rattle.command_desk.specs.Formats.{code_of}
use Rattle.desk_errors.specs.declared.error.CommandError.{CommandError}
use Rattle.grid_address.specs.Place.{Extent}
use Rattle.sheet_edits.specs.Spans.{with_code}
use Rattle.work_sheet.specs.Editing.{reformatted}
use Rattle.work_sheet.specs.Did.{Did}
use Rattle.work_sheet.specs.Seen.{of_worksheet, Sheet}
use Rattle.commands_range.proofs.formats.formatted.Goals as goal

pub returns-in_ok-set_format-in-Ok : goal.returns-in_ok-set_format-in-Ok
returns-in_ok-set_format-in-Ok c = λ n.
    let s : Sheet = of_worksheet c.args.sheet.now in
    let did =
    subst (λ (code : ℕ). Did (reformatted c.in-Ok.span (with_code code) s) c.args.sheet.now c.set_format.new.self n n)
    c.code.ensures.code (c.in_ok-set_format-in-Ok.ensures.did n) in
    let names = ap (λ m. span_at m c.args.answers.now c.args.place) c.names.ensures in
    subst (λ (r : Result Extent CommandError). HasActed
    (given r (λ span. finished (reformatted span (with_code (code_of c.args.format)) s)) s)
    Finished c.args.sheet.now c.set_format.new.self n n)
    (sym c.in-Ok.is ∙ c.span_at.ensures ∙ names) (record { end = refl; did = did })
