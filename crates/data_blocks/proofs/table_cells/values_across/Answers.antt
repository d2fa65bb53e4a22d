use Rattle.std.proofs.Common.{ℕ, [], ◌∷◌, ◌++◌, ◌+◌, ap, ◌∙◌}
use Rattle.block_writes.specs.Writing.{at}
use Rattle.block_writes.proofs.Rows.{made_more}
use Rattle.data_blocks.specs.Benches.{values_on}
use Rattle.data_blocks.proofs.table_cells.values_across.Goals as goal

pub loop-place-preserved : goal.loop-place-preserved
loop-place-preserved g c =
    let values = values_on (g.B.Bench.shows c.args.bench.now) in
    let f = λ (col : ℕ). values (at c.args.span.first.row col) in
    let now = c.loop-place.values.items in (
      made_more f [] now c.push.new.self.items (c.args.span.first.col + 1) c.loop-place.place c.loop-place.invariant.0
          (c.in_ok-push.ensures.items
          ∙ ap (λ v. now ++ v ∷ []) (c.in_ok-value_at.ensures ∙ ap values c.cell_across.ensures)),
      c.loop-place.invariant.1,
    )
