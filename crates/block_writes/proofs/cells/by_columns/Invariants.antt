use Rattle.std.proofs.Common.{◌≡◌}
use Rattle.std.specs.List.{flat_map}
use Rattle.grid_address.specs.Place.{width_of}
use Rattle.block_writes.specs.Writing.{down, numbers_from, rows_of}
use Rattle.block_writes.proofs.cells.by_columns.Given as goal

abbrev pub invariant-loop-col : goal.invariant-loop-col
invariant-loop-col l =
    (l.cells ≡ flat_map (λ col. down col (rows_of l.span)) (numbers_from l.span.first.col l.col))
    × (l.width ≡ width_of l.span)
