use Rattle.sheet_edits.proofs.Listed.{cleared_more}
use Rattle.sheet_edits.proofs.Overlaid.{put_more, room_next}
use Rattle.sheet_edits.proofs.many.put_all.Goals as goal

pub put_at-requires-clause-room : goal.put_at-requires-clause-room
put_at-requires-clause-room c = room_next c.args.cells.now c.loop-cell.cell-index c.cell-item.result
    c.cell-item.is c.loop-cell-test.true c.args.store.now c.args.changes.now c.loop-cell.store c.loop-cell.changes
    c.loop-cell.invariant.store c.loop-cell.invariant.changes c.requires.room

pub loop-cell-preserved : goal.loop-cell-preserved
loop-cell-preserved c = record {
  store = put_more c.args.cells.now c.loop-cell.cell-index c.cell-item.result c.cell-item.is c.loop-cell-test.true
      c.args.store.now c.args.changes.now c.loop-cell.store c.loop-cell.changes c.loop-cell.invariant.store
      c.loop-cell.invariant.changes
      c.put_at.new.store c.put_at.ensures.store;
  changes = cleared_more c.args.cells.now c.loop-cell.cell-index c.cell-item.result c.cell-item.is
      c.loop-cell-test.true c.loop-cell.changes c.put_at.new.changes c.args.changes.now c.put_at.ensures.changes
      c.loop-cell.invariant.changes;
}
