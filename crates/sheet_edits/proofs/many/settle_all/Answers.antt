use Rattle.sheet_edits.proofs.Overlaid.{dirty_more, done_more, offered_more, others_more}
use Rattle.sheet_edits.proofs.many.settle_all.Goals as goal

pub loop-cell-preserved : goal.loop-cell-preserved
loop-cell-preserved c = record {
  done = done_more c.args.cells.now c.loop-cell.cell-index c.cell-item.result c.cell-item.is c.loop-cell-test.true
      c.args.store.now c.loop-cell.graph c.settle_at.new.graph c.settle_at.ensures.here c.settle_at.ensures.offer
      c.settle_at.ensures.formulas c.settle_at.ensures.offers c.loop-cell.invariant.done;
  offered = offered_more c.args.cells.now c.loop-cell.cell-index c.cell-item.result c.cell-item.is c.loop-cell-test.true
      c.args.store.now c.loop-cell.graph c.settle_at.new.graph c.settle_at.ensures.here c.settle_at.ensures.offer
      c.settle_at.ensures.formulas c.settle_at.ensures.offers c.loop-cell.invariant.offered;
  others = others_more c.args.cells.now c.loop-cell.cell-index c.cell-item.result c.cell-item.is c.loop-cell-test.true
      c.args.store.now c.loop-cell.graph c.settle_at.new.graph c.settle_at.ensures.here c.settle_at.ensures.offer
      c.settle_at.ensures.formulas c.settle_at.ensures.offers c.loop-cell.invariant.others;
  dirty = dirty_more c.args.cells.now c.loop-cell.cell-index c.cell-item.result c.cell-item.is c.loop-cell-test.true
      c.args.store.now c.loop-cell.graph c.settle_at.new.graph c.settle_at.ensures.here c.settle_at.ensures.offer
      c.settle_at.ensures.formulas c.settle_at.ensures.offers
      c.args.dirty.now.keys c.loop-cell.dirty.keys c.settle_at.new.dirty.keys c.settle_at.ensures.dirty
      c.loop-cell.invariant.dirty;
}
