use Rattle.std.proofs.Common.{◌≡◌, ◌+◌, ◌-◌, ◌++◌, map}
use Rattle.block_writes.specs.Writing.{at, numbers_from}
use Rattle.data_blocks.specs.Benches.{values_on}
use Rattle.data_blocks.specs.Tables.{answer_written}
use Rattle.data_blocks.proofs.one_input.push_row.Given as goal

abbrev pub invariant-loop-place : goal.invariant-loop-place
invariant-loop-place g l =
    (l.writes ≡ l.fn.writes
    ++ map (λ col. answer_written (values_on (g.B.Bench.shows l.bench))
    (record { from = at l.span.first.row col; to = at l.row col })) (numbers_from (l.span.first.col + 1) l.place))
    × (l.count ≡ l.span.last.col - l.span.first.col)
