use Rattle.std.proofs.Common.{◌≡◌, ◌+◌, ◌/◌, ◌^◌, ◌++◌, length}
use Rattle.fixed_value.specs.Written.{fixed_digits}
use Rattle.fixed_value.proofs.digits.put_places.Given as goal

abbrev pub invariant-loop-more : goal.invariant-loop-more
invariant-loop-more l =
    record {
      digits : fixed_digits l.more l.left ++ l.text
          ≡ fixed_digits l.count l.number ++ l.initial.text;
      size : length l.text + l.more ≡ length l.initial.text + l.count;
      left : l.left / 10 ^ l.more ≡ l.number / 10 ^ l.count;
    }

abbrev pub decreases-loop-more : goal.decreases-loop-more
decreases-loop-more l = l.more
