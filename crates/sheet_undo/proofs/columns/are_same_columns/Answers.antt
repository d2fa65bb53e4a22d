use Rattle.std.proofs.Common.{arith}
use Rattle.sheet_undo.proofs.Compared.{all_columns}
use Rattle.sheet_undo.proofs.Twins.{granted}
use Rattle.sheet_undo.proofs.columns.are_same_columns.Goals as goal

pub returns : goal.returns
returns c = granted (all_columns c.args.one.now c.args.other.now c.loop-col.col (omega (arith, c.loop-col-test.false))
    c.are_columns.ensures.widths c.are_columns-2.ensures.widths c.are_columns.ensures.hidden
    c.are_columns-2.ensures.hidden c.loop-col.invariant)
