use Rattle.std.proofs.Common.{◌≡◌, ◌++◌}
use Rattle.range_index.proofs.search.listed.Given as goal

abbrev pub invariant-loop-cell : goal.invariant-loop-cell
invariant-loop-cell l = l.list ++ l.cell-iterator ≡ l.found.keys
