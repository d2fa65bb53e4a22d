use Rattle.std.proofs.Common.{sym, subst, ◌∙◌}
use Rattle.std.specs.Prelude.{IfSome}
use Rattle.formula_parts.specs.declared.items.Item.TheVariants as item
use Rattle.formula_parts.specs.inner.Kept.{IsRunning}
use Rattle.formula_parts.specs.inner.Totals.{IsTotal}
use Rattle.formula_parts.proofs.Growing.{grown}
use Rattle.formula_parts.proofs.Keeping.{stays}
use Rattle.formula_parts.proofs.kept.grown.Goals as goal

pub returns-then-not-contains : goal.returns-then-not-contains
returns-then-not-contains c = λ values others is blank takes same.
    (let running = c.in_ok-running.running in
    let there : IsRunning values running = subst (λ o. IfSome o (IsRunning values)) c.in_ok-running.was is in
    subst (IsTotal running.total)
    (stays values others running.span c.args.cell (sym c.contains.ensures ∙ c.if-not-contains.true) same) there)

pub returns : goal.returns
returns c = λ values others is blank takes same.
    (let running = c.in_ok-running.running in
    let there : IsRunning values running = subst (λ o. IfSome o (IsRunning values)) c.in_ok-running.was is in
    grown values others running.span c.args.cell (item.Is c.args.number) running.total c.add_item.new.total
    (sym c.contains.ensures ∙ c.if-not-contains.false) blank takes same
    (c.add_item.ensures c.if-not-add_item.false) there)
