use Rattle.std.proofs.Common.{arith}
use Rattle.fixed_value.proofs.Standing.{behind_below}
use Rattle.fixed_value.proofs.in_place.short_places.Goals as goal

pub returns-clause-below : goal.returns-clause-below
returns-clause-below c =
    let strip = c.without_zeros_at_end-number in
    behind_below strip.result.1 strip.result.0 c.args.millionths (omega (arith, strip.ensures.whole, c.from.ensures))
    (omega (arith, c.requires))
