use Rattle.std.proofs.Common.{◌≡◌}
use Rattle.range_names.proofs.Keys.{key_upto}
use Rattle.range_names.proofs.key.key_of.Given as goal

abbrev pub invariant-loop-at : goal.invariant-loop-at
invariant-loop-at l = l.key ≡ key_upto l.name l.at
