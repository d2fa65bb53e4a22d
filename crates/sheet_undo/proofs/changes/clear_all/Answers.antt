use Rattle.std.specs.FinMap.{remove}
use Rattle.std.proofs.Common.{ap, arith, sym, ◌∙◌}
use Rattle.std.proofs.lemmas.List.{take_all}
use Rattle.grid_address.specs.Place.{Place}
use Rattle.std.specs.Prelude.{List}
use Rattle.sheet_store.specs.Grid.{Cells, Grid}
use Rattle.edit_log.specs.Changes.{with_changes}
use Rattle.sheet_undo.proofs.Going.{next_gone}
use Rattle.sheet_undo.specs.inner.Changes.{gone_of}
use Rattle.sheet_undo.proofs.changes.clear_all.Goals as goal

pub loop-cell-preserved : goal.loop-cell-preserved
loop-cell-preserved c = c.clear.ensures
    ∙ ap (λ (g : Grid). record g { cells = remove g.cells c.cell-item.result }) c.loop-cell.invariant
    ∙ ap (λ (m : Cells). record c.args.store.now { cells = m })
    (sym (next_gone c.args.store.now.cells c.args.cells.now c.loop-cell.cell-index c.cell-item.result
    c.cell-item.is c.loop-cell-test.true))

pub returns : goal.returns
returns c = c.loop-cell.invariant ∙ ap (λ (cs : List Place). with_changes c.args.store.now (gone_of cs))
    (take_all c.loop-cell.cell-index c.args.cells.now (omega (arith, c.loop-cell-test.false)))
