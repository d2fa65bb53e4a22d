use Rattle.std.proofs.Common.{◌≡◌, ◌++◌}
use Rattle.std.specs.Prelude.{replicate}
use Rattle.cell_format.proofs.push.fill.Given as goal

abbrev pub invariant-loop : goal.invariant-loop
invariant-loop l = l.into ≡ l.initial.into ++ replicate l.counter l.byte
