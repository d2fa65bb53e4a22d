use Rattle.std.proofs.Common.{◌≡◌, ◌+◌, ◌-◌, ◌++◌, [], map}
use Rattle.block_writes.specs.Writing.{at, numbers_from}
use Rattle.data_blocks.specs.Benches.{values_on}
use Rattle.data_blocks.proofs.table_cells.values_down.Given as goal

abbrev pub invariant-loop-place : goal.invariant-loop-place
invariant-loop-place g l =
    (l.values.items ≡ [] ++ map (λ row. values_on (g.B.Bench.shows l.bench) (at row l.span.first.col))
    (numbers_from (l.span.first.row + 1) l.place))
    × (l.count ≡ l.span.last.row - l.span.first.row)
