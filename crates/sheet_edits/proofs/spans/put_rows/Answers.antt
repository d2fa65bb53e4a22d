use Rattle.sheet_edits.proofs.Spanned.{no_rows, one_row}
use Rattle.sheet_edits.proofs.spans.put_rows.Goals as goal

pub loop-place-init : goal.loop-place-init
loop-place-init c = no_rows c.args.row c.args.col c.args.cols c.args.cells.now c.requires.empty

pub loop-place-preserved : goal.loop-place-preserved
loop-place-preserved c = one_row c.args.row c.args.col c.args.cols c.loop-place.cells c.put_row.new.cells
    c.loop-place.place c.loop-place.invariant c.in_ok-put_row.ensures
