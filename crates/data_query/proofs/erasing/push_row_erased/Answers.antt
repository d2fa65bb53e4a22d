use Rattle.std.proofs.Common.{ap, ◌∙◌}
use Rattle.block_writes.specs.Writing.{at, erased}
use Rattle.data_query.proofs.Erased.{cell_more}
use Rattle.data_query.proofs.erasing.push_row_erased.Goals as goal

pub loop-col-preserved : goal.loop-col-preserved
loop-col-preserved c =
    cell_more c.args.row c.args.span.first.col c.loop-col.col c.args.writes.now c.loop-col.writes c.push.new.self
    c.written.result c.loop-col.invariant
    (c.written.ensures ∙ ap (λ col. erased (at c.args.row col)) c.column_at-col.ensures) c.in_ok-push.ensures.ok
