use Rattle.std.proofs.Common.{◌≡◌, ◌++◌}
use Rattle.block_writes.specs.Writing.{columns_of, numbers_from}
use Rattle.data_query.specs.Selection.{rows_erased}
use Rattle.data_query.proofs.erasing.push_rows_erased.Given as goal

abbrev pub invariant-loop-place : goal.invariant-loop-place
invariant-loop-place l = l.writes ≡ l.fn.writes ++ rows_erased (columns_of l.span) (numbers_from l.first l.place)
