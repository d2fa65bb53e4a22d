use Rattle.std.proofs.Common.{sym, subst, ◌∙◌}
use Rattle.std.specs.Prelude.{IfSome}
use Rattle.formula_parts.specs.inner.Kept.{IsRunning}
use Rattle.formula_parts.specs.inner.Totals.{IsTotal}
use Rattle.formula_parts.proofs.Keeping.{stays}
use Rattle.formula_parts.proofs.kept.without.Goals as goal

pub returns : goal.returns
returns c = λ values others is same.
    (let running = c.in_ok-running.running in
    let there : IsRunning values running = subst (λ o. IfSome o (IsRunning values)) c.in_ok-running.was is in
    subst (IsTotal running.total)
    (stays values others running.span c.args.cell (sym c.contains.ensures ∙ c.if-contains.false) same) there)
