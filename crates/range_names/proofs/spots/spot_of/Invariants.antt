use Rattle.std.proofs.Common.{◌≡◌}
use Rattle.range_names.proofs.Written.{spot_upto}
use Rattle.range_names.proofs.spots.spot_of.Given as goal

abbrev pub invariant-loop-at : goal.invariant-loop-at
invariant-loop-at l = l.spot ≡ spot_upto l.fn.span l.key l.at
