use Rattle.std.proofs.Common.{◌≡◌, ◌≤◌, ◌<◌, ◌^◌, ◌++◌, take, replicate}
use Rattle.fixed_value.specs.Decimals.{number_of}
use Rattle.fixed_value.proofs.decimal.seven_places.Given as goal

abbrev pub invariant-loop-at : goal.invariant-loop-at
invariant-loop-at l = record {
  within : l.at ≤ 7;
  number : l.number ≡ number_of (take l.at (l.places ++ replicate 7 48));
  size : l.number < 10 ^ l.at;
}
