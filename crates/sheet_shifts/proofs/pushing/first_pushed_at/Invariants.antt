use Rattle.std.specs.Prelude.{◌≡◌, drop}
use Rattle.sheet_shifts.specs.inner.Puts.{first_pushed_at}
use Rattle.sheet_shifts.proofs.pushing.first_pushed_at.Given as goal

abbrev pub invariant-loop-cell : goal.invariant-loop-cell
invariant-loop-cell l =
    first_pushed_at l.change l.store.cells (drop l.cell-index l.cells) ≡ first_pushed_at l.change l.store.cells l.cells
