use Rattle.std.proofs.Common.{◌≡◌}
use Rattle.range_names.specs.Names.{next_after}
use Rattle.range_names.proofs.names.first_after.Given as goal

abbrev pub invariant-loop-key : goal.invariant-loop-key
invariant-loop-key l = next_after l.wanted l.key-iterator ≡ next_after l.wanted l.map.entries
