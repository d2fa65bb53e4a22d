use Rattle.macro_text.specs.inner.Cells.{AreCellsOf}
use Rattle.macro_text.proofs.arguments.cells_in.Given as goal

abbrev pub invariant-loop-place : goal.invariant-loop-place
invariant-loop-place l = AreCellsOf l.list l.cells.items
