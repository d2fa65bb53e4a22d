use Rattle.std.proofs.Common.{◌≡◌, ◌≤◌, ◌<◌, ◌+◌, ◌^◌, ◌++◌, length}
use Rattle.fixed_value.specs.Written.{fixed_digits, without_zeros}
use Rattle.fixed_value.proofs.digits.put_whole.Given as goal

abbrev pub invariant-loop-left : goal.invariant-loop-left
invariant-loop-left l =
    record {
      digits : without_zeros (fixed_digits l.more l.left) ++ l.text
          ≡ without_zeros (fixed_digits l.most l.number) ++ l.initial.text;
      size : length l.text + l.more ≡ length l.initial.text + l.most;
      below : l.left < 10 ^ l.more;
      some : 1 ≤ l.more;
    }

abbrev pub decreases-loop-left : goal.decreases-loop-left
decreases-loop-left l = l.left
