use Rattle.std.proofs.Common.{◌≤◌, ◌-◌}
use Rattle.formula_parts.specs.Lookups.{passes}
use Rattle.formula_parts.proofs.Lines.{IsPassed}
use Rattle.formula_parts.proofs.lookups.passed.Given as goal

abbrev pub invariant-loop-line : goal.invariant-loop-line
invariant-loop-line g l =
    (l.line ≤ l.lines) × IsPassed (passes l.x) (g.K.Look.sight l.look).values l.across l.span l.lines l.line

abbrev pub decreases-loop-line : goal.decreases-loop-line
decreases-loop-line g l = l.lines - l.line
