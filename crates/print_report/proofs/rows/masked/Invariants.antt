use Rattle.std.proofs.Common.{◌≡◌, map, take}
use Rattle.cell_format.specs.Labels.{masked}
use Rattle.print_report.proofs.rows.masked.Given as goal

abbrev pub invariant-loop-at : goal.invariant-loop-at
invariant-loop-at l = l.row ≡ map masked (take l.at l.bytes)
