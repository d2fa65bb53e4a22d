use Rattle.std.proofs.Common.{◌≡◌, ◌++◌, map}
use Rattle.block_writes.specs.Writing.{across, erased, numbers_from}
use Rattle.data_query.proofs.erasing.push_row_erased.Given as goal

abbrev pub invariant-loop-col : goal.invariant-loop-col
invariant-loop-col l = l.writes ≡ l.fn.writes ++ map erased (across l.row (numbers_from l.span.first.col l.col))
