use Rattle.std.specs.FinMap.{entries}
use Rattle.std.specs.Prelude.{length}
use Rattle.sheet_undo.proofs.Twins.{AreTwins}
use Rattle.sheet_undo.proofs.cells.are_same_cells.Given as goal

abbrev pub invariant-loop-entry : goal.invariant-loop-entry
invariant-loop-entry l = AreTwins (entries l.one.cells) (entries l.other.cells) l.left l.right

abbrev pub decreases-loop-entry : goal.decreases-loop-entry
decreases-loop-entry l = length l.left
