use Rattle.std.specs.FinMap.{get}
use Rattle.std.proofs.Common.{◌∙◌}
use Rattle.sheet_edits.specs.inner.Putting.{node_given}
use Rattle.sheet_edits.proofs.Overlaid.{offers_more}
use Rattle.sheet_edits.proofs.many.offer_all.Goals as goal

pub loop-cell-preserved : goal.loop-cell-preserved
loop-cell-preserved c = record {
  formulas = c.offer_at.ensures.formulas ∙ c.loop-cell.invariant.formulas;
  offers = offers_more c.args.cells.now c.loop-cell.cell-index c.cell-item.result c.cell-item.is c.loop-cell-test.true
      (λ d. node_given (get c.args.changes.now d) d) c.loop-cell.graph c.offer_at.new.graph c.offer_at.ensures.others
      c.in_ok-offer_at.ensures.offer
      c.loop-cell.invariant.offers;
}
