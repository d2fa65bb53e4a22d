use Rattle.std.specs.Char.{to_ascii_uppercase}
use Rattle.std.proofs.Common.{◌≡◌, ◌≤◌, ◌-◌, length, drop, map}
use Rattle.std.specs.Ordering.{nat_cmp}
use Rattle.std.specs.Cmp.Lexicographic.{slice_cmp}
use Rattle.lics_text.proofs.text.fold_cmp.Given as goal

abbrev pub invariant-loop-at : goal.invariant-loop-at
invariant-loop-at l =
    (l.at ≤ length l.a) × (l.at ≤ length l.b)
    × (slice_cmp nat_cmp (map to_ascii_uppercase l.a) (map to_ascii_uppercase l.b)
    ≡ slice_cmp nat_cmp (map to_ascii_uppercase (drop l.at l.a)) (map to_ascii_uppercase (drop l.at l.b)))

abbrev pub decreases-loop-at : goal.decreases-loop-at
decreases-loop-at l = length l.initial.a - l.at
