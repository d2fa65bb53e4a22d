use Rattle.std.proofs.Common.{◌≡◌, ◌+◌, ◌++◌, length, replicate}
use Rattle.fixed_value.proofs.digits.put_zeros.Given as goal

abbrev pub invariant-loop-more : goal.invariant-loop-more
invariant-loop-more l =
    (replicate l.more 48 ++ l.text ≡ replicate l.count 48 ++ l.initial.text)
    × (length l.text + l.more ≡ length l.initial.text + l.count)

abbrev pub decreases-loop-more : goal.decreases-loop-more
decreases-loop-more l = l.more
