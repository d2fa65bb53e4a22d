use Rattle.std.proofs.Common.{◌≡◌}
use Rattle.grid_address.specs.Place.{height_of}
use Rattle.block_writes.specs.Writing.{down, numbers_from}
use Rattle.data_blocks.proofs.sort.row_cells.Given as goal

abbrev pub invariant-loop-row : goal.invariant-loop-row
invariant-loop-row l =
    (l.cells.items ≡ down l.span.first.col (numbers_from l.span.first.row l.row)) × (l.height ≡ height_of l.span)
