use Rattle.std.specs.FinMap.{get}
use Rattle.sheet_edits.proofs.Listed.{given_more}
use Rattle.sheet_edits.proofs.Spanned.{nothing_given}
use Rattle.sheet_edits.specs.Spans.{blanked}
use Rattle.sheet_edits.proofs.spans.erased.Goals as goal

pub loop-cell-init : goal.loop-cell-init
loop-cell-init c = nothing_given c.new-changes.result c.new-changes.ensures

pub loop-cell-preserved : goal.loop-cell-preserved
loop-cell-preserved c = given_more c.args.cells.now c.loop-cell.cell-index c.cell-item.result
    c.cell-item.is c.loop-cell-test.true c.loop-cell.changes c.erase_at.new.changes
    (λ x. blanked (get c.args.store.now.cells x)) c.in_ok-erase_at.ensures c.loop-cell.invariant
