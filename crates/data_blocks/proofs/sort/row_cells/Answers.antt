use Rattle.std.proofs.Common.{ℕ, [], ◌∷◌, ◌++◌, ap, ◌∙◌}
use Rattle.grid_address.specs.Place.{Place}
use Rattle.block_writes.specs.Writing.{at}
use Rattle.block_writes.proofs.Rows.{made_more}
use Rattle.data_blocks.proofs.sort.row_cells.Goals as goal

pub loop-row-preserved : goal.loop-row-preserved
loop-row-preserved c =
    let now = c.loop-row.cells.items in (
      made_more (λ (row : ℕ). at row c.args.span.first.col) [] now c.push.new.self.items c.args.span.first.row
          c.loop-row.row c.loop-row.invariant.0
          (c.in_ok-push.ensures.items ∙ ap (λ (p : Place). now ++ p ∷ []) c.row_cell.ensures),
      c.loop-row.invariant.1,
    )
