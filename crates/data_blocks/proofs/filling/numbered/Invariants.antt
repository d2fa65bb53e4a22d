use Rattle.std.proofs.Common.{◌≡◌, ◌++◌, drop}
use Rattle.fixed_value.specs.Numbers.{within}
use Rattle.data_blocks.proofs.Reached.{filled_from}
use Rattle.data_blocks.specs.inner.Steps.{reached}
use Rattle.data_blocks.proofs.filling.numbered.Given as goal

abbrev pub invariant-loop-cell : goal.invariant-loop-cell
invariant-loop-cell l =
    l.writes ++ filled_from l.step l.stop l.next (drop l.cell-index l.cells)
    ≡ filled_from l.step l.stop (reached l.step l.stop (within l.fn.start)) l.cells
