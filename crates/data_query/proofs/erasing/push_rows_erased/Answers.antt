use Rattle.block_writes.specs.Writing.{columns_of}
use Rattle.data_query.proofs.Erased.{row_more}
use Rattle.data_query.proofs.erasing.push_rows_erased.Goals as goal

pub loop-place-preserved : goal.loop-place-preserved
loop-place-preserved c =
    row_more (columns_of c.args.span) c.args.first c.loop-place.place c.args.writes.now c.loop-place.writes
    c.push_row_erased.new.writes c.loop-place.invariant c.in_ok-push_row_erased.ensures
