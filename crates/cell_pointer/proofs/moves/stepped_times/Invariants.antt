use Rattle.std.proofs.Common.{◌≡◌, ◌-◌}
use Rattle.cell_pointer.specs.Moves.{stepped_times}
use Rattle.cell_pointer.proofs.moves.stepped_times.Given as goal

abbrev pub invariant-loop-step : goal.invariant-loop-step
invariant-loop-step l =
    stepped_times l.count l.arrow l.cells l.fn.from ≡ stepped_times (l.count - l._step) l.arrow l.cells l.here
