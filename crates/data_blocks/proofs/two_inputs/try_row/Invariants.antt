use Rattle.std.proofs.Common.{◌≡◌, ◌+◌, ◌-◌, map}
use Rattle.block_writes.specs.Writing.{numbers_from}
use Rattle.data_blocks.specs.Benches.{HasTaken, IsSameBench}
use Rattle.data_blocks.specs.Tables.{cell_scenario}
use Rattle.data_blocks.proofs.two_inputs.try_row.Given as goal

-- the scenarios of the cells so far were taken
abbrev pub invariant-loop-place : goal.invariant-loop-place
invariant-loop-place g l =
    let shows = g.B.Bench.shows in
    let table = l.table in record {
      taken : HasTaken shows g.B.Bench.tries
          (map (cell_scenario table.span table.down table.across g.values l.row)
          (numbers_from (table.span.first.col + 1) l.place))
          l.fn.bench l.fn.writes l.bench l.writes;
      same : IsSameBench (shows l.fn.bench) (shows l.bench);
      count : l.count ≡ table.span.last.col - table.span.first.col;
    }
