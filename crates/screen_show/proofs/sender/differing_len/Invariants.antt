use Rattle.std.proofs.Common.{◌≡◌, ◌≤◌, ◌+◌, ◌-◌, length, drop}
use Rattle.screen_show.specs.inner.Patches.{differing_front}
use Rattle.screen_show.proofs.sender.differing_len.Given as goal

abbrev pub invariant-loop-len : goal.invariant-loop-len
invariant-loop-len l =
    (l.len ≤ length l.before)
    × (l.len + differing_front (drop l.len l.before) (drop l.len l.after) ≡ differing_front l.before l.after)

abbrev pub decreases-loop-len : goal.decreases-loop-len
decreases-loop-len l = length l.initial.before - l.len
