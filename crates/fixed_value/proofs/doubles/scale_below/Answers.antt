use Rattle.std.proofs.Common.{◌-◌, ◌≤◌, arith}
use Rattle.fixed_value.proofs.WrittenBits.{highest_in, raised_below, raised_least}
use Rattle.fixed_value.proofs.doubles.scale_below.Goals as goal

pub returns-clause-least : goal.returns-clause-least
returns-clause-least c =
    raised_least c.args.size c.ilog2-highest.result (71 - c.ilog2-highest.result) c.ilog2-highest.ensures.power_le
    (omega (arith, c.ilog2-highest.ensures.bound))

pub returns-clause-below : goal.returns-clause-below
returns-clause-below c =
    raised_below c.args.size c.ilog2-highest.result (71 - c.ilog2-highest.result) c.ilog2-highest.ensures.next_power_gt
    (omega (arith, c.ilog2-highest.ensures.bound))

pub returns-clause-in_range : goal.returns-clause-in_range
returns-clause-in_range c =
    let within : c.ilog2-highest.result ≤ 49 =
    highest_in c.args.size c.ilog2-highest.result c.ilog2-highest.ensures.power_le c.requires.most in
    (omega (arith, within), omega arith)
