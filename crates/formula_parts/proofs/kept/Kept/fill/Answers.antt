use Rattle.std.proofs.Common.{subst}
use Rattle.std.specs.Prelude.{IfSome}
use Rattle.formula_parts.specs.inner.Kept.{AreFound}
use Rattle.formula_parts.proofs.Ascent.{kept_stays}
use Rattle.formula_parts.proofs.kept.Kept.fill.Goals as goal

pub returns-then-not-hang_on : goal.returns-then-not-hang_on
returns-then-not-hang_on c = λ values others is blank takes same.
    kept_stays values others c.args.self.now.findings c.in-Some.findings c.args.cell c.in-Some.is
    (c.hang_on.ensures.last c.if-not-hang_on.true) (c.hang_on.ensures.before c.if-not-hang_on.true)
    (c.hang_on.ensures.rising c.if-not-hang_on.true) same is

pub returns : goal.returns
returns c = λ values others is blank takes same.
    c.filled.ensures values others (subst (λ o. IfSome o (AreFound values)) c.in-Some.is is) blank takes same
