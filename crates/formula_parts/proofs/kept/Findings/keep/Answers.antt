use Rattle.std.proofs.Common.{sym, subst}
use Rattle.std.specs.Prelude.{IfSome}
use Rattle.formula_parts.specs.declared.kept.Findings.{Findings}
use Rattle.formula_parts.specs.inner.Kept.{IsColumn, IsRunning}
use Rattle.formula_parts.proofs.kept.Findings.keep.Goals as goal
use Rattle.formula_parts.proofs.kept.Findings.keep.Goals.{in-None, in_default}

pub returns : goal.returns
returns c = λ values is more. record {
  last = more;
  before = elim c.match-first_rows.branch [
    | in-None w ↦ subst (λ (k : Findings). IfSome k.before (IsRunning values)) (sym w.self-is) is.last
    | in_default w ↦ subst (λ (k : Findings). IfSome k.before (IsRunning values)) (sym w.self-is) is.before
  ];
  rising = elim c.match-first_rows.branch [
    | in-None w ↦ subst (λ (k : Findings). IfSome k.rising (IsColumn values)) (sym w.self-is) is.rising
    | in_default w ↦ subst (λ (k : Findings). IfSome k.rising (IsColumn values)) (sym w.self-is) is.rising
  ];
}
