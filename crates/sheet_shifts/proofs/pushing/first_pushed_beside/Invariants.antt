use Rattle.std.proofs.Common.{◌≡◌, length}
use Rattle.std.specs.FinMap.{entries}
use Rattle.sheet_shifts.specs.Refusals.{first_pushed}
use Rattle.sheet_shifts.proofs.pushing.first_pushed_beside.Given as goal

abbrev pub invariant-loop-entry : goal.invariant-loop-entry
invariant-loop-entry l = first_pushed l.change l.entries ≡ first_pushed l.change (entries l.store.cells)

abbrev pub decreases-loop-entry : goal.decreases-loop-entry
decreases-loop-entry l = length l.entries
