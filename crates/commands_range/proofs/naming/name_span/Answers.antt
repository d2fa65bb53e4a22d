use Rattle.std.specs.Prelude.{refl, Result}
use Rattle.std.proofs.Common.{ap, subst, sym, ◌∙◌}
use Rattle.command_desk.specs.Acting.{finished, given, HasActed}
use Rattle.command_desk.specs.Answered.{span_at}
use Rattle.command_desk.specs.declared.ending.CommandEnd.TheVariants.{Finished}
use Rattle.desk_errors.specs.declared.error.CommandError.{CommandError}
use Rattle.grid_address.specs.Place.{Extent}
use Rattle.work_sheet.specs.Seen.{of_worksheet, Sheet}
use Rattle.commands_range.specs.Commands.{with_name}
use Rattle.commands_range.proofs.naming.name_span.Goals as goal

pub returns-in_ok-give_name-in-Ok : goal.returns-in_ok-give_name-in-Ok
returns-in_ok-give_name-in-Ok c = λ n.
    let s : Sheet = of_worksheet c.args.sheet.now in
    let names = ap (λ m. span_at m c.args.answers.now 1) c.names.ensures in
    subst (λ (r : Result Extent CommandError). HasActed
    (given r (λ span. finished (with_name c.args.name.now span s)) s)
    Finished c.args.sheet.now c.give_name.new.sheet n n)
    (sym c.in-Ok.is ∙ c.span_at.ensures ∙ names) (record { end = refl; did = c.in_ok-give_name-in-Ok.ensures n })
