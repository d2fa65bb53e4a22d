use Rattle.block_writes.proofs.Numbers.{joined}
use Rattle.block_writes.proofs.cells.by_columns.Goals as goal

pub loop-col-preserved : goal.loop-col-preserved
loop-col-preserved c = (
  joined c.args.span c.args.span.first.col c.loop-col.col c.loop-col.cells c.push_column.new.cells
      c.loop-col.invariant.0 c.in_ok-push_column.ensures,
  c.loop-col.invariant.1,
)
