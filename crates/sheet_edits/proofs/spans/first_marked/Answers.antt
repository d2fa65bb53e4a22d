use Rattle.std.specs.Prelude.{◌+◌, take}
use Rattle.std.proofs.Common.{subst, sym}
use Rattle.grid_address.specs.Place.{same_place}
use Rattle.cell_maps.specs.Sets.{has}
use Rattle.sheet_edits.proofs.Listed.{more_seen}
use Rattle.sheet_edits.proofs.Spanned.{first_more}
use Rattle.sheet_edits.specs.inner.Marks.{IsFirstOf}
use Rattle.sheet_edits.proofs.spans.first_marked.Goals as goal

pub loop-cell-preserved : goal.loop-cell-preserved
loop-cell-preserved c = subst (IsFirstOf c.args.store.now
    (has same_place (take (c.loop-cell.cell-index + 1) c.args.cells.now))) (sym c.sooner-first.ensures)
    (first_more c.args.store.now (has same_place (take c.loop-cell.cell-index c.args.cells.now))
    (has same_place (take (c.loop-cell.cell-index + 1) c.args.cells.now)) c.cell-item.result
    (more_seen c.args.cells.now c.loop-cell.cell-index c.cell-item.result c.cell-item.is c.loop-cell-test.true)
    c.loop-cell.first c.loop-cell.invariant)
