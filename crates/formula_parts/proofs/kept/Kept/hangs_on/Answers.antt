use Rattle.std.proofs.Common.{sym, subst}
use Rattle.std.specs.Prelude.{IfSome}
use Rattle.formula_parts.specs.inner.Kept.{AreFound}
use Rattle.formula_parts.proofs.Ascent.{kept_stays}
use Rattle.formula_parts.proofs.kept.Kept.hangs_on.Goals as goal

pub returns-in-Some : goal.returns-in-Some
returns-in-Some c = λ no values others is same.
    kept_stays values others c.args.self.now.findings c.in-Some.findings c.args.cell c.in-Some.is
    (c.hang_on.ensures.last no) (c.hang_on.ensures.before no) (c.hang_on.ensures.rising no) same is

pub returns-in-None : goal.returns-in-None
returns-in-None c = λ no values others is same. subst (λ o. IfSome o (AreFound others)) (sym c.in-None.is) tt
