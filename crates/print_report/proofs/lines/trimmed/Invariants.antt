use Rattle.std.proofs.Common.{◌≡◌, ◌≤◌, length, take}
use Rattle.print_report.specs.Lines.{trimmed}
use Rattle.print_report.proofs.lines.trimmed.Given as goal

abbrev pub invariant-loop-end : goal.invariant-loop-end
invariant-loop-end l = (l.end ≤ length l.text) × (trimmed l.text ≡ trimmed (take l.end l.text))

abbrev pub decreases-loop-end : goal.decreases-loop-end
decreases-loop-end l = l.end
