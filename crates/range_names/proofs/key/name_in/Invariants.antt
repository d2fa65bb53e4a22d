use Rattle.std.proofs.Common.{◌≤◌, ◌-◌, length}
use Rattle.range_names.proofs.Keys.{IsNamed}
use Rattle.range_names.proofs.key.name_in.Given as goal

abbrev pub invariant-loop-len : goal.invariant-loop-len
invariant-loop-len l = (l.len ≤ length l.key) × IsNamed l.key l.len

abbrev pub decreases-loop-len : goal.decreases-loop-len
decreases-loop-len l = length l.key - l.len
