use Rattle.std.proofs.Common.{◌∙◌}
use Rattle.fixed_value.proofs.Kept.{hundredfold_below, hundredfold_is}
use Rattle.fixed_value.proofs.digits.write_hundredfold.Goals as goal

pub write-requires-clause-below : goal.write-requires-clause-below
write-requires-clause-below c = hundredfold_below c.scaled-number.result c.min-kept.result c.scaled-number.ensures.whole

pub returns : goal.returns
returns c =
    c.write.ensures ∙ hundredfold_is c.args.value c.args.places c.min-kept.result c.scaled-number.result
    c.is_minus.result c.scaled-number.ensures.size c.min-kept.ensures c.scaled-number.ensures.value c.is_minus.ensures
