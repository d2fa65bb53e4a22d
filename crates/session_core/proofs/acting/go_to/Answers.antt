use Rattle.std.specs.Prelude.{refl, Result}
use Rattle.std.proofs.Common.{rules, ap, subst, sym, ◌∙◌}
use Rattle.command_desk.specs.Acting.{finished, given, HasActed}
use Rattle.command_desk.specs.Answered.{cell_at}
use Rattle.command_desk.specs.declared.ending.CommandEnd.TheVariants.{Finished}
use Rattle.desk_errors.specs.declared.error.CommandError.{CommandError}
use Rattle.grid_address.specs.Place.{Place}
use Rattle.work_sheet.specs.Did.{Did}
use Rattle.work_sheet.specs.Doing.{quiet, with_pointer}
use Rattle.work_sheet.specs.Seen.{of_worksheet, Sheet}
use Rattle.session_core.proofs.acting.go_to.Goals as goal

pub returns-in-Ok : goal.returns-in-Ok
returns-in-Ok c = λ n.
    let s : Sheet = of_worksheet c.args.sheet.now in
    let names = ap (λ m. cell_at m c.args.answers.now 0) c.names.ensures in
    let did : Did (quiet (with_pointer c.in-Ok.pointer s)) c.args.sheet.now c.set_settings.new.self n n =
    record {
      sheet = rw (c.set_settings.ensures n).sheet (search rules);
      work = (c.set_settings.ensures n).work;
      history = (c.set_settings.ensures n).history;
    } in
    subst (λ (r : Result Place CommandError). HasActed (given r (λ p. finished (quiet (with_pointer p s))) s)
    Finished c.args.sheet.now c.set_settings.new.self n n)
    (sym c.in-Ok.is ∙ c.cell_at.ensures ∙ names) (record { end = refl; did = did })
