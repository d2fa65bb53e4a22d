use Rattle.std.proofs.Common.{sym, arith}
use Rattle.cell_pointer.proofs.Ahead.{none_above, none_before, some_above, some_before}
use Rattle.cell_pointer.proofs.runs.next_cell.Goals as goal

pub returns-then-row-gt0-clause-some : goal.returns-then-row-gt0-clause-some
returns-then-row-gt0-clause-some c =
    some_above c.args.arrow c.args.cell c.cell.inside.row c.cell.inside.col c.in-Up.is (sym c.cell.view_is)
    (omega (arith, c.if-row-gt0.true))

pub returns-else-row-gt0-clause-none : goal.returns-else-row-gt0-clause-none
returns-else-row-gt0-clause-none c =
    none_above c.args.arrow c.args.cell c.cell.inside.row c.cell.inside.col c.in-Up.is (sym c.cell.view_is)
    (omega (arith, c.if-row-gt0.false))

pub returns-then-col-gt0-clause-some : goal.returns-then-col-gt0-clause-some
returns-then-col-gt0-clause-some c =
    some_before c.args.arrow c.args.cell c.cell.inside.row c.cell.inside.col c.in-Left.is (sym c.cell.view_is)
    (omega (arith, c.if-col-gt0.true))

pub returns-else-col-gt0-clause-none : goal.returns-else-col-gt0-clause-none
returns-else-col-gt0-clause-none c =
    none_before c.args.arrow c.args.cell c.cell.inside.row c.cell.inside.col c.in-Left.is (sym c.cell.view_is)
    (omega (arith, c.if-col-gt0.false))
