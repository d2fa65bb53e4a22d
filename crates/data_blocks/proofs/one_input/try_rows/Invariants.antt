use Rattle.std.proofs.Common.{◌≡◌, ◌+◌, ◌-◌, map}
use Rattle.block_writes.specs.Writing.{numbers_from}
use Rattle.data_blocks.specs.Benches.{values_on, HasTaken, IsSameBench}
use Rattle.data_blocks.specs.Tables.{row_scenario}
use Rattle.data_blocks.proofs.one_input.try_rows.Given as goal

-- the scenarios of the rows so far were taken
abbrev pub invariant-loop-place : goal.invariant-loop-place
invariant-loop-place g l =
    let shows = g.B.Bench.shows in record {
      taken : HasTaken shows g.B.Bench.tries
          (map (row_scenario l.table.span l.table.input (values_on (shows l.fn.bench)))
          (numbers_from (l.table.span.first.row + 1) l.place))
          l.fn.bench l.fn.writes l.bench l.writes;
      same : IsSameBench (shows l.fn.bench) (shows l.bench);
      count : l.count ≡ l.table.span.last.row - l.table.span.first.row;
    }
