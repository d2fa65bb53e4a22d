use Rattle.std.proofs.Common.{◌≡◌, min, take}
use Rattle.fixed_value.specs.Decimals.{number_of}
use Rattle.fixed_value.proofs.decimal.capped_number.Given as goal

abbrev pub invariant-loop-b : goal.invariant-loop-b
invariant-loop-b l = l.number ≡ min (number_of (take l.b-index l.digits)) 1000000000
