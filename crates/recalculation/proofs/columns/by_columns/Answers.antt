use Rattle.std.proofs.Common.{◌∙◌, ap}
use Rattle.std.specs.Prelude.{length}
use Rattle.recalculation.proofs.ByColumn.{column_end, column_step, length_columns}
use Rattle.recalculation.specs.Reading.{by_columns}
use Rattle.recalculation.proofs.columns.by_columns.Goals as goal

pub loop-col-preserved : goal.loop-col-preserved
loop-col-preserved c = column_step c.loop-col.col c.args.cells.now c.loop-col.list.items c.add_column.new.list.items
    (by_columns c.args.cells.now) c.loop-col-test.true c.in_ok-add_column.ensures c.loop-col.invariant

pub returns-clause-length : goal.returns-clause-length
returns-clause-length c =
    ap length (column_end c.loop-col.col c.args.cells.now c.loop-col.list.items
    (by_columns c.args.cells.now) c.loop-col-test.false c.loop-col.invariant)
    ∙ length_columns c.args.cells.now c.are_on_sheet.ensures
