use Rattle.std.proofs.Common.{◌≡◌, ◌++◌}
use Rattle.grid_address.specs.Place.{width_of}
use Rattle.block_writes.specs.Writing.{numbers_from, row_copied}
use Rattle.block_writes.proofs.copies.push_row.Given as goal

abbrev pub invariant-loop-col : goal.invariant-loop-col
invariant-loop-col g l =
    (l.writes ≡ l.fn.writes
    ++ row_copied (g.K.Look.sight l.look) (numbers_from l.span.first.col l.col) l.from.row l.to.row)
    × (l.width ≡ width_of l.span)
