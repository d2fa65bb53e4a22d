use Rattle.std.proofs.Common.{◌≡◌, ◌++◌, map}
use Rattle.grid_address.specs.Place.{height_of, Place}
use Rattle.block_writes.specs.Writing.{columns_of, row_copied, rows_copied, rows_of}
use Rattle.block_writes.proofs.Rows.{rest}
use Rattle.block_writes.proofs.copies.rows_copied.Given as goal

abbrev pub invariant-loop-place : goal.invariant-loop-place
invariant-loop-place g l =
    l.writes ++ rest (λ p. row_copied (g.K.Look.sight l.look) (columns_of l.span) p.0 p.1)
    (map (λ (p : Place). p.row) l.cells) l.span.first.row (height_of l.span) l.place
    ≡ rows_copied (g.K.Look.sight l.look) (columns_of l.span) (map (λ (p : Place). p.row) l.cells) (rows_of l.span)
