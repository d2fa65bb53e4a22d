use Rattle.std.proofs.Common.{◌≡◌, ◌+◌, ◌-◌, ◌++◌, [], map}
use Rattle.block_writes.specs.Writing.{at, numbers_from}
use Rattle.data_blocks.specs.Benches.{values_on}
use Rattle.data_blocks.proofs.table_cells.values_across.Given as goal

abbrev pub invariant-loop-place : goal.invariant-loop-place
invariant-loop-place g l =
    (l.values.items ≡ [] ++ map (λ col. values_on (g.B.Bench.shows l.bench) (at l.span.first.row col))
    (numbers_from (l.span.first.col + 1) l.place))
    × (l.count ≡ l.span.last.col - l.span.first.col)
