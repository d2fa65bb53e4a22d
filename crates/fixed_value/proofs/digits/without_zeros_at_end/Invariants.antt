use Rattle.std.proofs.Common.{◌≡◌, ◌≤◌, ◌/◌, ◌^◌}
use Rattle.std.specs.Prelude.{◌==◌}
use Rattle.fixed_value.specs.Written.{fixed_digits, without_last_zeros}
use Rattle.fixed_value.proofs.digits.without_zeros_at_end.Given as goal

abbrev pub invariant-loop-more : goal.invariant-loop-more
invariant-loop-more l =
    record {
      digits : without_last_zeros (fixed_digits l.more l.left)
          ≡ without_last_zeros (fixed_digits l.places l.number);
      whole : l.left / 10 ^ l.more ≡ l.number / 10 ^ l.places;
      zero : (l.left == 0) ≡ (l.number == 0);
      size : l.more ≤ l.places;
      most : l.left ≤ l.number;
    }

abbrev pub decreases-loop-more : goal.decreases-loop-more
decreases-loop-more l = l.more
