use Rattle.std.proofs.Common.{arith}
use Rattle.range_names.proofs.Keys.{filled}
use Rattle.range_names.proofs.key.key_of.Goals as goal

pub loop-at-preserved : goal.loop-at-preserved
loop-at-preserved c =
    filled c.args.name.now c.loop-at.key c.loop-at.at c.to_ascii_uppercase.result (omega arith) c.requires
    c.loop-at.invariant c.to_ascii_uppercase.ensures.value
