use Rattle.std.proofs.Common.{◌≡◌, take}
use Rattle.sheet_store.proofs.scan.listed.Given as goal

abbrev pub invariant-loop-cell : goal.invariant-loop-cell
invariant-loop-cell l = l.list ≡ take l.cell-index l.cells
