use Rattle.std.specs.Prelude.{◌≡◌, take}
use Rattle.edit_log.specs.Changes.{cells_of}
use Rattle.edit_log.proofs.runs.list_all.Given as goal

abbrev pub invariant-loop-place : goal.invariant-loop-place
invariant-loop-place l = l.cells.keys ≡ take l.place (cells_of l.changes)
