use Rattle.std.specs.Prelude.{Some}
use Rattle.std.specs.FinMap.{get, insert}
use Rattle.std.proofs.Common.{ap, ◌∙◌}
use Rattle.sheet_edits.proofs.Listed.{given_more}
use Rattle.sheet_edits.proofs.Spanned.{nothing_given}
use Rattle.sheet_edits.specs.Spans.{reformatted_state, rule_of}
use Rattle.sheet_edits.proofs.spans.reformatted.Goals as goal

pub loop-cell-init : goal.loop-cell-init
loop-cell-init c = nothing_given c.in_ok-changes.changes c.in_ok-changes.ensures

pub loop-cell-preserved : goal.loop-cell-preserved
loop-cell-preserved c = given_more c.args.cells.now c.loop-cell.cell-index c.cell-item.result
    c.cell-item.is c.loop-cell-test.true c.loop-cell.changes c.set.new.self
    (λ x. Some (reformatted_state (rule_of c.args.change) (get c.args.store.now.cells x))) (c.in_ok-set.ensures
    ∙ ap (λ s. insert c.loop-cell.changes c.cell-item.result s) c.in_ok-state.ensures) c.loop-cell.invariant
