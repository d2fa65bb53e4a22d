use Rattle.std.specs.Prelude.{◌≡◌, ◌++◌, take, List}
use Rattle.grid_address.specs.Place.{Place}
use Rattle.edit_log.specs.Changes.{all_changed, cells_of}
use Rattle.edit_log.specs.inner.Runs.{AreListed}
use Rattle.edit_log.proofs.runs.note_run.Given as goal

abbrev pub invariant-loop-cell : goal.invariant-loop-cell
invariant-loop-cell l = record {
  before : all_changed l.store.cells l.changes.items ≡ all_changed l.store.cells l.fn.changes.items;
  listed : (keys : List Place) → AreListed keys l.fn.changes.items → AreListed keys l.changes.items;
  cells : cells_of l.changes.items ≡ cells_of l.fn.changes.items ++ take l.cell-index l.cells;
}
