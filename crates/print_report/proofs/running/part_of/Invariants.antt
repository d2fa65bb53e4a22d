use Rattle.std.proofs.Common.{◌≡◌, ◌≤◌, ◌++◌, length, take, drop}
use Rattle.print_report.specs.Running.{filled_in, part}
use Rattle.print_report.proofs.running.part_of.Given as goal

abbrev pub invariant-loop-at : goal.invariant-loop-at
invariant-loop-at l =
    (length l.part ≤ l.width)
    × (part l.width l.number l.day l.text ≡ take l.width (l.part ++ filled_in l.number l.day (drop l.at l.text)))
