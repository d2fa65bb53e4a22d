use Rattle.std.proofs.Common.{◌≡◌, Ok, subst}
use Rattle.formula_text.specs.Reading.{reading}
use Rattle.range_names.specs.Names.{NameMap}
use Rattle.macro_text.proofs.Nameless.{nameless}
use Rattle.macro_text.proofs.arguments.nameless_formula.Goals as goal

pub returns-in-Ok : goal.returns-in-Ok
returns-in-Ok c =
    nameless c.args.cell c.args.text.now c.in-Ok.formula
    (subst (λ (n : NameMap). reading n c.args.cell c.args.text.now ≡ Ok c.in-Ok.formula) c.new-names.ensures
    c.in-Ok.ensures.found)
