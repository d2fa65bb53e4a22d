use Rattle.std.specs.Prelude.{◌≡◌, take}
use Rattle.edit_log.specs.Changes.{with_changes}
use Rattle.sheet_undo.specs.inner.Changes.{gone_of}
use Rattle.sheet_undo.proofs.changes.clear_all.Given as goal

abbrev pub invariant-loop-cell : goal.invariant-loop-cell
invariant-loop-cell l = l.store ≡ with_changes l.fn.store (gone_of (take l.cell-index l.cells))
