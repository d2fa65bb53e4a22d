use Rattle.std.proofs.Common.{◌≡◌, ◌+◌, ◌-◌}
use Rattle.std.specs.List.{flat_map}
use Rattle.block_writes.specs.Writing.{numbers_from}
use Rattle.data_blocks.specs.Benches.{HasTaken, IsSameBench}
use Rattle.data_blocks.specs.Tables.{row_scenarios}
use Rattle.data_blocks.proofs.two_inputs.try_rows.Given as goal

-- the scenarios of the rows so far were taken
abbrev pub invariant-loop-place : goal.invariant-loop-place
invariant-loop-place g l =
    let shows = g.B.Bench.shows in
    let table = l.table in record {
      taken : HasTaken shows g.B.Bench.tries
          (flat_map (row_scenarios table.span table.down table.across g.values)
          (numbers_from (table.span.first.row + 1) l.place))
          l.fn.bench l.fn.writes l.bench l.writes;
      same : IsSameBench (shows l.fn.bench) (shows l.bench);
      count : l.count ≡ table.span.last.row - table.span.first.row;
    }

-- the values by which the table was begun
abbrev pub ghost-try_row : goal.ghost-try_row
ghost-try_row g a = g.values
