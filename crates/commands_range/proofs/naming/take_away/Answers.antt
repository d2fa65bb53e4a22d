use Rattle.std.specs.Prelude.{◌≡◌, refl, Option, Some}
use Rattle.std.specs.FinMap as map
use Rattle.std.proofs.Common.{ap, subst, sym, ◌∙◌}
use Rattle.command_desk.specs.Acting.{HasActed}
use Rattle.command_desk.specs.declared.ending.CommandEnd.TheVariants.{Finished}
use Rattle.commands_range.specs.Commands.{taken_away}
use Rattle.grid_address.specs.Place.{Extent}
use Rattle.range_names.specs.Names.{key_of, NameMap}
use Rattle.work_sheet.specs.Seen.{of_worksheet, Sheet}
use Rattle.commands_range.proofs.naming.take_away.Goals as goal

pub returns-in-Ok : goal.returns-in-Ok
returns-in-Ok c = λ n.
    let s : Sheet = of_worksheet c.args.sheet.now in
    let there : map.get s.names (key_of c.args.name.now) ≡ Some c.in-Some._span =
    sym (ap (λ (m : NameMap). map.get m (key_of c.args.name.now)) c.names.ensures)
    ∙ sym (c.find.ensures.short c.requires.short)
    ∙ c.in-Some.is in
    subst (λ (o : Option Extent). HasActed (taken_away o c.args.name.now s) Finished c.args.sheet.now
    c.delete_name.new.self n n)
    (sym there) (record { end = refl; did = c.in-Ok.ensures.did n })
