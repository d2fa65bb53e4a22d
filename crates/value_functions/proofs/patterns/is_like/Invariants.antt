use Rattle.std.proofs.Common.{◌≡◌, ◌≤◌, ◌-◌, length, drop}
use Rattle.value_functions.specs.Patterns.{is_like}
use Rattle.value_functions.proofs.patterns.is_like.Given as goal

abbrev pub invariant-loop-at : goal.invariant-loop-at
invariant-loop-at l =
    (l.at ≤ length l.text) × (is_like (drop l.at l.pattern) (drop l.at l.text) ≡ is_like l.fn.pattern l.fn.text)

abbrev pub decreases-loop-at : goal.decreases-loop-at
decreases-loop-at l = length l.initial.pattern - l.at
