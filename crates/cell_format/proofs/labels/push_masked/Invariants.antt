use Rattle.std.proofs.Common.{◌≡◌, ◌++◌, map, take}
use Rattle.cell_format.specs.Labels.{masked}
use Rattle.cell_format.proofs.labels.push_masked.Given as goal

abbrev pub invariant-loop-byte : goal.invariant-loop-byte
invariant-loop-byte l = l.into ≡ l.initial.into ++ map masked (take l.byte-index l.bytes)
