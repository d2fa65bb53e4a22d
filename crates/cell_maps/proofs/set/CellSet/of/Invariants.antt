use Rattle.std.proofs.Common.{◌≡◌, take}
use Rattle.cell_maps.proofs.set.CellSet.of.Given as goal

abbrev pub invariant-loop-cell : goal.invariant-loop-cell
invariant-loop-cell l = l.set.keys ≡ take l.cell-index l.fn.cells
