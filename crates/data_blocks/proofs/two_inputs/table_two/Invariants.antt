use Rattle.data_blocks.specs.Benches.{values_on}
use Rattle.data_blocks.proofs.two_inputs.table_two.Given as goal

-- the values before the first input
abbrev pub ghost-try_rows : goal.ghost-try_rows
ghost-try_rows g a = values_on (g.B.Bench.shows a.bench.now)
