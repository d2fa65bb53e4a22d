use Rattle.std.proofs.Common.{◌≡◌, ◌-◌, ◌++◌}
use Rattle.print_report.specs.Lines.{empty_lines}
use Rattle.print_report.proofs.lines.put_empty_lines.Given as goal

abbrev pub invariant-loop : goal.invariant-loop
invariant-loop l = l.initial.out ++ empty_lines l.count ≡ l.out ++ empty_lines (l.count - l.counter)
