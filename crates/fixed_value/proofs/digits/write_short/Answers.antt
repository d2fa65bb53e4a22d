use Rattle.std.proofs.Common.{◌∙◌}
use Rattle.fixed_value.proofs.Kept.{short_is}
use Rattle.fixed_value.proofs.digits.write_short.Goals as goal

pub returns : goal.returns
returns c =
    c.write.ensures
    ∙ short_is c.args.value c.args.places c.min-kept.result c.scaled.result c.without_end_zeros-number.result.1
    c.without_end_zeros-number.result.0 c.is_minus.result c.scaled.ensures.size c.min-kept.ensures
    c.scaled.ensures.value c.is_minus.ensures
    c.without_end_zeros-number.ensures.places c.without_end_zeros-number.ensures.whole
    c.without_end_zeros-number.ensures.zero
