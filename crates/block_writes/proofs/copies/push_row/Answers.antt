use Rattle.std.proofs.Common.{ℕ}
use Rattle.block_writes.specs.Writing.{at, copied}
use Rattle.block_writes.proofs.Rows.{made_more}
use Rattle.block_writes.proofs.copies.push_row.Goals as goal

pub loop-col-preserved : goal.loop-col-preserved
loop-col-preserved g c =
    let sight = g.K.Look.sight c.args.look.now in
    let f = λ (col : ℕ). copied sight (at c.args.from.row col) (at c.args.to.row col) in (
      made_more f c.args.writes.now c.loop-col.writes c.push_cell.new.writes c.args.span.first.col c.loop-col.col
          c.loop-col.invariant.0 c.in_ok-push_cell.ensures,
      c.loop-col.invariant.1,
    )
