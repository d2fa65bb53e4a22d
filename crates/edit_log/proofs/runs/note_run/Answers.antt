use Rattle.std.specs.Prelude.{◌++◌, refl, Option}
use Rattle.std.specs.FinMap.{get}
use Rattle.std.proofs.Common.{arith, ap, sym, subst, ◌∙◌}
use Rattle.std.proofs.lemmas.List.{append-nil, take_all}
use Rattle.grid_address.specs.Place.{Place}
use Rattle.sheet_store.specs.State.{CellState}
use Rattle.edit_log.proofs.AtOnce.{run_before, run_cells, run_listed}
use Rattle.edit_log.specs.Changes.{all_changed, cells_of}
use Rattle.edit_log.specs.inner.Runs.{AreListed}
use Rattle.edit_log.proofs.runs.note_run.Goals as goal

pub loop-cell-init : goal.loop-cell-init
loop-cell-init c = record {
  before = ap (all_changed c.args.store.now.cells) c.reserve.ensures.items;
  listed = λ keys h. subst (AreListed keys) (sym c.reserve.ensures.items) h;
  cells = ap cells_of c.reserve.ensures.items ∙ sym (append-nil (cells_of c.args.changes.now.items));
}

pub loop-cell-preserved : goal.loop-cell-preserved
loop-cell-preserved c =
    let m = c.args.store.now.cells in
    let before = c.args.changes.now.items in
    let cells = c.args.cells.now in
    let i = c.loop-cell.cell-index in
    let x = c.cell-item.result in
    let lt = c.loop-cell-test.true in
    let old = c.loop-cell.changes.items in
    let so_far = c.loop-cell.invariant in
    let new = c.push_at.new.changes.items in
    let e : Place × Option CellState = (x, get m x) in
    let more = c.in_ok-push_at.ensures.ok in
    record {
      before = run_before m before cells i x c.cell-item.is lt c.requires.once c.requires.beside old so_far.cells new e
          refl more so_far.before;
      listed = run_listed m before cells i x c.cell-item.is lt c.requires.once c.requires.beside old so_far.cells new e
          refl more so_far.listed;
      cells = run_cells m before cells i x c.cell-item.is lt c.requires.once c.requires.beside old so_far.cells new e
          refl more;
    }

pub returns-clause-noted : goal.returns-clause-noted
returns-clause-noted c = c.loop-cell.invariant.cells ∙ ap (λ l. cells_of c.args.changes.now.items ++ l)
    (take_all c.loop-cell.cell-index c.args.cells.now (omega (arith, c.loop-cell-test.false)))
