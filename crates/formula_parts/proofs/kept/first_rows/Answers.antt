use Rattle.std.proofs.Common.{sym, ap, subst, ◌∙◌, arith}
use Rattle.std.specs.Prelude.{IfSome}
use Rattle.formula_parts.specs.inner.Kept.{IsRunning}
use Rattle.formula_parts.specs.inner.Totals.{so_far, IsTotal}
use Rattle.formula_parts.proofs.Keeping.{goes_on}
use Rattle.formula_parts.proofs.kept.first_rows.Goals as goal

pub returns-then-begins-clause-rows : goal.returns-then-begins-clause-rows
returns-then-begins-clause-rows c = omega (arith, c.height.ensures.height, c.begins.ensures.rows c.if-begins.true)

pub returns-then-begins-clause-total : goal.returns-then-begins-clause-total
returns-then-begins-clause-total c = λ values is.
    (let running = c.in_ok-running.running in
    let begins = c.begins.ensures in
    let yes = c.if-begins.true in
    let there : IsRunning values running = subst (λ o. IfSome o (IsRunning values)) c.in_ok-running.was is in
    subst (IsTotal running.total)
    (goes_on values running.span c.args.span (begins.row yes) (begins.col yes) (begins.width yes)
    ∙ ap (so_far values c.args.span) (sym c.height.ensures.height)) there)
