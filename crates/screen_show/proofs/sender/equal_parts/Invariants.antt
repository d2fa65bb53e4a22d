use Rattle.std.proofs.Common.{◌≡◌, ◌≤◌, ◌-◌, length, take}
use Rattle.screen_show.proofs.sender.equal_parts.Given as goal

abbrev pub invariant-loop-len : goal.invariant-loop-len
invariant-loop-len l = record {
  within : l.len ≤ length l.before;
  equal : take l.len l.before ≡ take l.len l.after;
}

abbrev pub decreases-loop-len : goal.decreases-loop-len
decreases-loop-len l = length l.initial.before - l.len
