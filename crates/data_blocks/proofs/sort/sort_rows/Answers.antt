use Rattle.std.proofs.Common.{rules}
use Rattle.data_blocks.specs.Sorting.{IsSort}
use Rattle.data_blocks.proofs.InOrder.{one_sort}
use Rattle.data_blocks.proofs.sort.sort_rows.Goals as goal

pub returns-in-Ok-clause-rows : goal.returns-in-Ok-clause-rows
returns-in-Ok-clause-rows g c =
    let sight = g.K.Look.sight c.args.look.now in
    one_sort sight c.args.span c.args.keys.now c.in-Ok.writes c.in-Ok.ensures
