use Rattle.std.proofs.Common.{◌≡◌, ◌++◌}
use Rattle.block_writes.specs.Writing.{down, numbers_from}
use Rattle.block_writes.proofs.cells.push_down.Given as goal

abbrev pub invariant-loop-row : goal.invariant-loop-row
invariant-loop-row l = l.cells ≡ l.fn.cells ++ down l.col (numbers_from l.first l.row)
