use Rattle.std.proofs.Common.{◌≡◌, drop}
use Rattle.data_blocks.specs.Sorting.{order_of_rows}
use Rattle.data_blocks.proofs.sort.order_of_rows.Given as goal

abbrev pub invariant-loop-key : goal.invariant-loop-key
invariant-loop-key g l =
    order_of_rows (g.K.Look.sight l.look).values (drop l.key-index l.keys) l.a.row l.b.row
    ≡ order_of_rows (g.K.Look.sight l.look).values l.keys l.a.row l.b.row
