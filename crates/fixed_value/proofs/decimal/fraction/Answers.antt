use Rattle.std.proofs.Common.{arith, ap, sym, ◌∙◌}
use Rattle.fixed_value.specs.declared.decimal.Decimal.TheVariants.{Num}
use Rattle.fixed_value.proofs.Places.{in_size, too_large}
use Rattle.fixed_value.proofs.decimal.fraction.Goals as goal

pub returns-then-size-gt999999999999999 : goal.returns-then-size-gt999999999999999
returns-then-size-gt999999999999999 c =
    sym (too_large c.args.minus c.args.whole.now c.args.places.now c.capped_number.result c.seven_places.result
    c.capped_number.ensures c.seven_places.ensures.value (omega arith))

pub returns : goal.returns
returns c =
    ap (λ z. Num z) c.of_size.ensures
    ∙ sym (in_size c.args.minus c.args.whole.now c.args.places.now c.capped_number.result c.seven_places.result
    c.capped_number.ensures c.seven_places.ensures.value (omega arith))
