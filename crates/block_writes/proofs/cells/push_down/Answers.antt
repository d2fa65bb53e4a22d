use Rattle.block_writes.proofs.Numbers.{pushed}
use Rattle.block_writes.proofs.cells.push_down.Goals as goal

pub loop-row-preserved : goal.loop-row-preserved
loop-row-preserved c =
    pushed c.args.cells.now c.loop-row.cells c.push.new.self c.args.col c.args.first c.loop-row.row
    c.loop-row.invariant c.in_ok-push.ensures.ok
