use Rattle.std.proofs.Common.{arith}
use Rattle.range_names.proofs.Written.{spot_more}
use Rattle.range_names.proofs.spots.spot_of.Goals as goal

pub loop-at-preserved : goal.loop-at-preserved
loop-at-preserved c =
    spot_more c.args.span c.args.key.now c.loop-at.spot c.loop-at.at c.from-in-loop-at.result (omega arith) c.told-key
    c.loop-at.invariant c.from-in-loop-at.ensures
