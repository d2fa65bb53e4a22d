use Rattle.std.proofs.Common.{◌≡◌, ◌++◌, ◌≤◌, ◌+◌, ◌*◌, drop, length}
use Rattle.cell_format.specs.Numbers.{grouped}
use Rattle.cell_format.proofs.numbers.push_grouped.Given as goal

abbrev pub invariant-loop-at : goal.invariant-loop-at
invariant-loop-at l =
    (l.into ++ grouped (drop l.at l.digits) ≡ l.initial.into ++ grouped l.digits)
    × (length l.into ≤ length l.initial.into + 2 * l.at)
