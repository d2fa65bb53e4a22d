use Rattle.std.proofs.Common.{arith, ap, sym, ◌∙◌}
use Rattle.std.specs.Option.{unwrap_or}
use Rattle.at_functions.specs.Numbers.{in_units, whole}
use Rattle.at_functions.specs.Texts.{found}
use Rattle.at_functions.proofs.Found.{found_at, found_nowhere, from_zero}
use Rattle.at_functions.proofs.texts.find_in.Goals as goal

pub overflow_cast-at : goal.overflow_cast-at
overflow_cast-at c = omega (arith, c.in-Some.ensures.some.stands.within, c.find.ensures.text.0)

pub units-requires : goal.units-requires
units-requires c = omega (arith, c.in-Some.ensures.some.stands.within, c.find.ensures.text.0)

pub returns-in-Some : goal.returns-in-Some
returns-in-Some c =
    c.units.ensures ∙ ap in_units
    (sym (found_at c.args.what.now c.args.text.now c.unwrap_or-from.result c.in-Some.at c.in-Some.ensures.some))
    ∙ ap (λ from. in_units (found c.args.what.now c.args.text.now from))
    (c.unwrap_or-from.ensures ∙ ap (λ o. unwrap_or o 0) c.count_of.ensures ∙ from_zero (whole c.args.start))

pub returns-in-None : goal.returns-in-None
returns-in-None c =
    ap in_units (sym (found_nowhere c.args.what.now c.args.text.now c.unwrap_or-from.result c.in-None.ensures.none))
    ∙ ap (λ from. in_units (found c.args.what.now c.args.text.now from))
    (c.unwrap_or-from.ensures ∙ ap (λ o. unwrap_or o 0) c.count_of.ensures ∙ from_zero (whole c.args.start))
