use Rattle.std.proofs.Common.{◌≡◌, Some}
use Rattle.fixed_value.specs.Powers.{powered}
use Rattle.fixed_value.proofs.power.powered.Given as goal

abbrev pub invariant-loop : goal.invariant-loop
invariant-loop l = powered l.x l.counter ≡ Some l.power
