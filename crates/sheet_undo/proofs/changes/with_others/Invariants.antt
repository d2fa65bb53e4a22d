use Rattle.std.specs.Prelude.{length}
use Rattle.sheet_undo.proofs.Between.{IsGiving}
use Rattle.edit_log.specs.Changes.{all_changed}
use Rattle.sheet_undo.specs.inner.Changes.{gone_of}
use Rattle.sheet_undo.proofs.changes.with_others.Given as goal

abbrev pub invariant-loop-entry : goal.invariant-loop-entry
invariant-loop-entry l = IsGiving l.kept.cells l.next.cells
    (all_changed (all_changed l.next.cells (gone_of l.gone.items)) l.others.items) l.left

abbrev pub decreases-loop-entry : goal.decreases-loop-entry
decreases-loop-entry l = length l.left
