use Rattle.std.proofs.Common.{◌≡◌, length}
use Rattle.cell_pointer.specs.Moves.{ahead, run_end}
use Rattle.cell_pointer.proofs.runs.run_end.Given as goal

abbrev pub invariant-loop-next : goal.invariant-loop-next
invariant-loop-next l =
    run_end l.cells l.fn.from (ahead l.arrow l.fn.from) ≡ run_end l.cells l.here (ahead l.arrow l.here)

abbrev pub decreases-loop-next : goal.decreases-loop-next
decreases-loop-next l = length (ahead l.arrow l.here)
