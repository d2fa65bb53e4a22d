use Rattle.std.proofs.Common.{◌∙◌}
use Rattle.fixed_value.proofs.Kept.{decimal_is}
use Rattle.fixed_value.proofs.digits.write_decimal.Goals as goal

pub returns : goal.returns
returns c =
    c.write.ensures ∙ decimal_is c.args.value c.args.places c.min-kept.result c.scaled.result c.is_minus.result
    c.scaled.ensures.size c.min-kept.ensures c.scaled.ensures.value c.is_minus.ensures
