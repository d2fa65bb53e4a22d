use Rattle.std.proofs.Common.{◌≡◌, length}
use Rattle.cell_pointer.specs.Moves.{ahead, next_filled}
use Rattle.cell_pointer.proofs.runs.next_filled.Given as goal

abbrev pub invariant-loop-next : goal.invariant-loop-next
invariant-loop-next l =
    next_filled l.cells l.fn.from (ahead l.arrow l.fn.from) ≡ next_filled l.cells l.here (ahead l.arrow l.here)

abbrev pub decreases-loop-next : goal.decreases-loop-next
decreases-loop-next l = length (ahead l.arrow l.here)
