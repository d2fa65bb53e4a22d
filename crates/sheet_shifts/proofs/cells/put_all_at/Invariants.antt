use Rattle.std.specs.Prelude.{◌≡◌, drop}
use Rattle.sheet_shifts.specs.inner.Puts.{put_all_at}
use Rattle.sheet_shifts.proofs.cells.put_all_at.Given as goal

abbrev pub invariant-loop-cell : goal.invariant-loop-cell
invariant-loop-cell l =
    put_all_at l.shift l.store.cells l.into (drop l.cell-index l.cells)
    ≡ put_all_at l.shift l.store.cells l.fn.into l.cells
