use Rattle.std.proofs.Common.{◌≡◌, ◌++◌, map, ◌+◌, length}
use Rattle.cell_format.specs.Labels.{masked, repeated}
use Rattle.cell_format.proofs.labels.put_repeated.Given as goal

abbrev pub invariant-loop-at : goal.invariant-loop-at
invariant-loop-at l =
    (l.into ≡ l.initial.into ++ repeated (map masked l.bytes) l.at) × (length l.into ≡ length l.initial.into + l.at)
