use Rattle.recalculation.proofs.Fresh.{graph_step}
use Rattle.recalculation.proofs.whole.add_formulas.Goals as goal

pub loop-cell-preserved : goal.loop-cell-preserved
loop-cell-preserved c = graph_step c.args.store.now c.loop-cell.graph c.add_formula.new.graph c.args.graph.now.formulas
    c.args.cells.now c.loop-cell.cell-index c.cell-item.result c.cell-item.is c.loop-cell-test.true
    c.in_ok-add_formula.ensures c.loop-cell.invariant
