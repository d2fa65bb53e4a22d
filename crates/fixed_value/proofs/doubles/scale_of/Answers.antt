use Rattle.fixed_value.proofs.WrittenBits.{shifted_twice}
use Rattle.fixed_value.proofs.doubles.scale_of.Goals as goal

pub returns-then-count-lt4503599627370496000000-clause-value :
    goal.returns-then-count-lt4503599627370496000000-clause-value
returns-then-count-lt4503599627370496000000-clause-value c =
    shifted_twice c.args.size c.from.result c.scale_below-scale.result c.from.ensures c.scale_below-scale.ensures.below
