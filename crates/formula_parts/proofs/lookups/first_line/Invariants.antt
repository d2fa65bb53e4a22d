use Rattle.std.proofs.Common.{◌≤◌, ◌-◌, not}
use Rattle.formula_parts.specs.Lookups.{is_label}
use Rattle.formula_parts.proofs.Lines.{IsPassed}
use Rattle.formula_parts.proofs.lookups.first_line.Given as goal

abbrev pub invariant-loop-line : goal.invariant-loop-line
invariant-loop-line g l =
    (l.line ≤ l.lines)
    × IsPassed (λ v. not (is_label l.text v)) (g.K.Look.sight l.look).values l.across l.span l.lines l.line

abbrev pub decreases-loop-line : goal.decreases-loop-line
decreases-loop-line g l = l.lines - l.line
