use Rattle.std.proofs.Common.{◌≡◌, ◌≤◌, ◌-◌, ◌++◌, take, drop, length}
use Rattle.fixed_value.specs.Decimals.{whole_digits, behind_digits}
use Rattle.fixed_value.proofs.decimal.digits_len.Given as goal

abbrev pub invariant-loop-len : goal.invariant-loop-len
invariant-loop-len l = record {
  within : l.len ≤ length l.bytes;
  whole : take l.len l.bytes ++ whole_digits (drop l.len l.bytes) ≡ whole_digits l.bytes;
  behind : behind_digits (drop l.len l.bytes) ≡ behind_digits l.bytes;
}

abbrev pub decreases-loop-len : goal.decreases-loop-len
decreases-loop-len l = length l.bytes - l.len
