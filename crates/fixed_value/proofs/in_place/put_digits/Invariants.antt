use Rattle.std.proofs.Common.{◌-◌}
use Rattle.fixed_value.proofs.InPlace.{Placing}
use Rattle.fixed_value.proofs.in_place.put_digits.Given as goal

abbrev pub invariant-loop-from : goal.invariant-loop-from
invariant-loop-from l = Placing l.first l.end l.count l.number l.initial.bytes l.from l.left l.bytes

abbrev pub decreases-loop-from : goal.decreases-loop-from
decreases-loop-from l = l.from - l.first
