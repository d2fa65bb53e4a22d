use Rattle.std.proofs.Common.{ap, ◌∙◌}
use Rattle.sheet_store.specs.Grid.{Grid}
use Rattle.sheet_edits.proofs.Listed.{cleared_more}
use Rattle.sheet_edits.proofs.many.clear_all.Goals as goal

pub loop-cell-preserved : goal.loop-cell-preserved
loop-cell-preserved c = record {
  cells = cleared_more c.args.cells.now c.loop-cell.cell-index c.cell-item.result c.cell-item.is
      c.loop-cell-test.true c.loop-cell.store.cells c.clear.new.self.cells c.args.store.now.cells
      (ap (λ (g : Grid). g.cells) c.clear.ensures) c.loop-cell.invariant.cells;
  widths = ap (λ (g : Grid). g.widths) c.clear.ensures ∙ c.loop-cell.invariant.widths;
  hidden = ap (λ (g : Grid). g.hidden) c.clear.ensures ∙ c.loop-cell.invariant.hidden;
}
